use Rattle.std.proofs.Common.{◌≡◌, take}
use Rattle.hk_lrat.specs.Log.{numbered}
use Rattle.hk_lrat.proofs.checker.Checker.with_room.Given as goal

abbrev pub invariant-loop-i : goal.invariant-loop-i
invariant-loop-i l = l.checker.state ≡ record { vars = l.list.vars; last = l.i; live = numbered 1 (take l.i l.list.clauses) }
