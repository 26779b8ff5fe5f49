use Rattle.std.proofs.Common.{take}
use Rattle.hk_lrat.proofs.Denied.{Denies}
use Rattle.hk_lrat.proofs.marks.deny.Given as goal

abbrev pub invariant-loop-lit : goal.invariant-loop-lit
invariant-loop-lit l = Denies l.vars l.marks l.row (take l.lit-index l.clause)
