use Rattle.std.proofs.Common.{◌≡◌, ◌⊎◌, true, take, neg_ℤ}
use Rattle.std.specs.List.{All}
use Rattle.hk_cnf.specs.Literal.{has}
use Rattle.hk_cdcl.proofs.watched.other_left.Given as goal

abbrev pub invariant-loop-other : goal.invariant-loop-other
invariant-loop-other l = All (λ x. (l.lit ≡ x) ⊎ (has l.trail.lits (neg_ℤ x) ≡ true)) (take l.other-index l.clause)
