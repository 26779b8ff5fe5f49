use Rattle.hk_cdcl.specs.Names.{IsFront}
use Rattle.hk_cdcl.proofs.names.front_of.Given as goal

abbrev pub invariant-loop-place : goal.invariant-loop-place
invariant-loop-place l = IsFront l.place l.whole l.part
