use Rattle.std.proofs.Common.{◌≡◌, drop}
use Rattle.hk_lrat.specs.Log.{has_both}
use Rattle.hk_lrat.proofs.log_read.has_both_among.Given as goal

abbrev pub invariant-loop-i : goal.invariant-loop-i
invariant-loop-i l = has_both (drop l.i l.clause) ≡ has_both l.clause
