use Rattle.std.proofs.Common.{◌≡◌, drop}
use Rattle.hk_lrat.specs.Log.{fault_from, log_fault}
use Rattle.hk_lrat.proofs.refutation.try_rows.Given as goal

abbrev pub invariant-loop-i : goal.invariant-loop-i
invariant-loop-i l = fault_from l.checker.state l.i (drop l.i l.rows) ≡ log_fault l.list l.log
