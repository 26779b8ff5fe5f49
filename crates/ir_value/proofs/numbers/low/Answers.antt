use Rattle.std.proofs.Common.{◌≡◌}
use Rattle.std.proofs.lemmas.Nat.{and_mask}
use Rattle.ir_value.proofs.numbers.low.Goals as goal

pub returns : goal.returns
returns c = rw c.greatest.ensures (and_mask c.args.n c.args.w)
