use Rattle.std.proofs.Common.{◌≤◌}
use Rattle.hk_cdcl.specs.Analysis.{Closed}
use Rattle.hk_cdcl.proofs.analyze.resolve_first.Given as goal

abbrev pub invariant-loop-place : goal.invariant-loop-place
invariant-loop-place l = Closed l.clauses.clauses l.trail l.initial.seen l.seen l.place l.zero × (l.place ≤ l.zero)

abbrev pub decreases-loop-place : goal.decreases-loop-place
decreases-loop-place l = l.place
