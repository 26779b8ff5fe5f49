use Rattle.std.proofs.Common.{◌≡◌, ◌++◌, take, drop, ◌-◌}
use Rattle.hk_cdcl.proofs.solver.joined.Given as goal

abbrev pub invariant-loop-i : goal.invariant-loop-i
invariant-loop-i l = l.joined ≡ record { vars = l.list.vars; clauses = l.list.clauses ++ take (l.i - l.from) (drop l.from l.own.clauses) }
