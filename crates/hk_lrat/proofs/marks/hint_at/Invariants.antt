use Rattle.std.proofs.Common.{◌≡◌, take}
use Rattle.hk_cnf.specs.Hint.{hint_of}
use Rattle.hk_lrat.specs.Marks.{marked}
use Rattle.hk_lrat.proofs.marks.hint_at.Given as goal

abbrev pub invariant-loop-lit : goal.invariant-loop-lit
invariant-loop-lit l = l.hint ≡ hint_of (marked l.marks l.row) (take l.lit-index l.clause)
