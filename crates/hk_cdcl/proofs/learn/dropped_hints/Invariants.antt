use Rattle.std.proofs.Common.{◌≤◌, ℕ, Bool, List, ℤ, length}
use Rattle.hk_cdcl.specs.Learning.{IsDerivable}
use Rattle.hk_cdcl.proofs.Dropping.{Led}
use Rattle.hk_cdcl.proofs.learn.dropped_hints.Given as goal

abbrev pub invariant-loop-place : goal.invariant-loop-place
invariant-loop-place l = (clauses : List (List ℤ)) (seen : List Bool) (from : ℕ) (c : List ℤ) (conflict : ℕ) → from ≤ length l.trail.lits → IsDerivable clauses l.trail seen l.dropped from c conflict → Led clauses c l.trail seen l.dropped from l.place-index l.next l.hints
