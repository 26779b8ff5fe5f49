use Rattle.std.proofs.lemmas.Nat.{and_mask}
use Rattle.hk_term.proofs.operations.low.Goals as goal

pub returns : goal.returns
returns c = rw c.greatest.ensures (and_mask c.args.n c.args.w)
