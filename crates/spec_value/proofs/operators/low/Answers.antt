use Rattle.std.proofs.lemmas.Nat.{and_mask}
use Rattle.spec_value.proofs.operators.low.Goals as goal

pub returns : goal.returns
returns c = rw c.ones.ensures (and_mask c.args.n c.args.w)
