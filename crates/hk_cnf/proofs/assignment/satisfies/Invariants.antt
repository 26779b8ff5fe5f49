use Rattle.std.proofs.Common.{◌≡◌, take, true}
use Rattle.hk_cnf.specs.Clauses.{clauses_value}
use Rattle.hk_cnf.proofs.assignment.satisfies.Given as goal

abbrev pub invariant-loop-i : goal.invariant-loop-i
invariant-loop-i l = clauses_value l.values (take l.i l.list.clauses) ≡ true
