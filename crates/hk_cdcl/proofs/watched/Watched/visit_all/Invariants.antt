use Rattle.std.proofs.Common.{◌-◌, length}
use Rattle.hk_cdcl.specs.Path.{Extends}
use Rattle.hk_cdcl.specs.Records.{lit_of}
use Rattle.hk_cdcl.specs.Watches.{watches_of}
use Rattle.hk_cdcl.specs.Watching.{Turning}
use Rattle.hk_cdcl.proofs.watched.Watched.visit_all.Given as goal

abbrev pub invariant-loop-place : goal.invariant-loop-place
invariant-loop-place l = Extends l.clauses.clauses l.initial.trail l.trail × Turning l.clauses.clauses l.self l.trail l.head (lit_of l.code) l.place

abbrev pub decreases-loop-place : goal.decreases-loop-place
decreases-loop-place l = length (watches_of l.self.watches.lists (lit_of l.code)) - l.place
