use Rattle.hk_cdcl.specs.Path.{AreTruths}
use Rattle.hk_cdcl.proofs.trail.Trail.values.Given as goal

abbrev pub invariant-loop-place : goal.invariant-loop-place
invariant-loop-place l = AreTruths l.self.lits l.place l.values.items
