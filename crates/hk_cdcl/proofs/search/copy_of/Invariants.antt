use Rattle.std.proofs.Common.{◌≡◌, take}
use Rattle.hk_cdcl.proofs.search.copy_of.Given as goal

abbrev pub invariant-loop-i : goal.invariant-loop-i
invariant-loop-i l = l.copy ≡ record { vars = l.list.vars; clauses = take l.i l.list.clauses }
