use Rattle.std.proofs.Common.{List, ℤ}
use Rattle.hk_cdcl.specs.Learning.{IsDerivable, Leads}
use Rattle.hk_cdcl.proofs.learn.hints_of.Given as goal

abbrev pub invariant-loop-place : goal.invariant-loop-place
invariant-loop-place l = (clauses : List (List ℤ)) (c : List ℤ) → IsDerivable clauses l.trail l.seen l.dropped l.from c l.conflict → Leads clauses c l.seen l.trail.lits l.place l.hints
