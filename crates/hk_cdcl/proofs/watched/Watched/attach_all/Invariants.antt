use Rattle.std.proofs.Common.{◌-◌, length}
use Rattle.hk_cdcl.specs.Path.{Extends}
use Rattle.hk_cdcl.specs.Watching.{Propagating}
use Rattle.hk_cdcl.proofs.watched.Watched.attach_all.Given as goal

abbrev pub invariant-loop-self : goal.invariant-loop-self
invariant-loop-self l = Extends l.clauses.clauses l.initial.trail l.trail × Propagating l.clauses.clauses l.self l.trail l.head

abbrev pub decreases-loop-self : goal.decreases-loop-self
decreases-loop-self l = length l.clauses.clauses - length l.self.watches.pairs
