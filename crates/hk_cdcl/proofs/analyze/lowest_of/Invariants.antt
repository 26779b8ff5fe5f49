use Rattle.std.proofs.Common.{take}
use Rattle.hk_cdcl.specs.Analysis.{IsLowestOf}
use Rattle.hk_cdcl.proofs.analyze.lowest_of.Given as goal

abbrev pub invariant-loop-lit : goal.invariant-loop-lit
invariant-loop-lit l = IsLowestOf l.trail.lits l.below (take l.lit-index l.clause) l.lowest l.lower
