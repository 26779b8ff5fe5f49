use Rattle.std.proofs.Common.{◌≡◌, true, take, neg_ℤ}
use Rattle.std.specs.List.{All}
use Rattle.hk_cnf.specs.Literal.{has}
use Rattle.hk_cdcl.proofs.watched.left_literal.Given as goal

abbrev pub invariant-loop-lit : goal.invariant-loop-lit
invariant-loop-lit l = All (λ x. has l.trail.lits (neg_ℤ x) ≡ true) (take l.lit-index l.clause)
