use Rattle.std.proofs.Common.{take}
use Rattle.hk_cdcl.specs.Analysis.{is_redundant}
use Rattle.hk_cdcl.specs.Learning.{Gathered}
use Rattle.hk_cdcl.proofs.learn.collect.Given as goal

abbrev pub invariant-loop-place : goal.invariant-loop-place
invariant-loop-place l = Gathered l.trail.lits (is_redundant l.clauses.clauses l.trail l.seen) (take l.place-index l.lower) l.below l.uip l.parts.clause.items l.parts.dropped.items l.parts.rest
