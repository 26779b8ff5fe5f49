use Rattle.std.proofs.Common.{◌≡◌, arith}
use Rattle.std.proofs.lemmas.Nat.{pow_pos}
use Rattle.ir_value.proofs.Words.{up_to_greatest}
use Rattle.ir_value.proofs.numbers.is_number.Goals as goal

pub returns : goal.returns
returns c = up_to_greatest c.args.n c.args.w c.greatest.result c.greatest.ensures
