use Rattle.std.proofs.Common.{◌-◌, length}
use Rattle.hk_cdcl.specs.Path.{Extends}
use Rattle.hk_cdcl.proofs.scan.scan.Given as goal

abbrev pub invariant-rounds : goal.invariant-rounds
invariant-rounds l = Extends l.clauses.clauses l.initial.trail l.trail

abbrev pub decreases-rounds : goal.decreases-rounds
decreases-rounds l = l.trail.vars - length l.trail.lits
