use Rattle.std.proofs.Common.{◌≡◌, take}
use Rattle.hk_cdcl.proofs.call.first_rows.Given as goal

abbrev pub invariant-loop-i : goal.invariant-loop-i
invariant-loop-i l = l.front ≡ take l.i l.log
