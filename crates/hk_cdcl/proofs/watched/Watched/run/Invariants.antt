use Rattle.std.proofs.Common.{◌-◌}
use Rattle.hk_cdcl.specs.Path.{Extends}
use Rattle.hk_cdcl.specs.Watching.{Propagating}
use Rattle.hk_cdcl.proofs.watched.Watched.run.Given as goal

abbrev pub invariant-loop-head : goal.invariant-loop-head
invariant-loop-head l = Extends l.clauses.clauses l.initial.trail l.trail × Propagating l.clauses.clauses l.self l.trail l.head

abbrev pub decreases-loop-head : goal.decreases-loop-head
decreases-loop-head l = l.trail.vars - l.head
