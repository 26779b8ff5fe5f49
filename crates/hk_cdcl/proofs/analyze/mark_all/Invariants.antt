use Rattle.std.proofs.Common.{take}
use Rattle.hk_cdcl.specs.Analysis.{Marks, IsTracked}
use Rattle.hk_cdcl.proofs.analyze.mark_all.Given as goal

abbrev pub invariant-loop-lit : goal.invariant-loop-lit
invariant-loop-lit l =
    Marks l.initial.seen l.seen (take l.lit-index l.clause)
    × (IsTracked l.trail.lits l.below l.initial.seen l.initial.lower.items → IsTracked l.trail.lits l.below l.seen l.lower.items)
