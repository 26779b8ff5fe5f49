use Rattle.std.proofs.Common.{◌<◌, ◌^◌, subst, sym}
use Rattle.std.proofs.lemmas.Nat.{and_mask, pow_pos}
use Rattle.std.proofs.Math.Nat.{mod-lt}
use Rattle.hk_copy.proofs.variable.low.Goals as goal

pub returns-clause-value : goal.returns-clause-value
returns-clause-value c = rw c.greatest.ensures (and_mask c.args.n c.args.width)

pub returns-clause-below : goal.returns-clause-below
returns-clause-below c = subst (λ m. m < 2 ^ c.args.width) (sym (returns-clause-value c)) (mod-lt c.args.n (pow_pos c.args.width))
