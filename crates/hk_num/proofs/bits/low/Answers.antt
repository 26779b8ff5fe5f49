use Rattle.std.proofs.lemmas.Nat.{and_mask}
use Rattle.hk_num.proofs.bits.low.Goals as goal

pub returns : goal.returns
returns c = rw c.mask.ensures (and_mask c.args.n c.args.w)
