use Rattle.hk_cdcl.specs.Names.{IsPart}
use Rattle.hk_cdcl.proofs.names.part_of.Given as goal

abbrev pub invariant-loop-clause : goal.invariant-loop-clause
invariant-loop-clause l = IsPart l.given l.whole l.part
