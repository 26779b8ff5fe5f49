use Rattle.std.proofs.Common.{◌≡◌, take}
use Rattle.hk_cnf.specs.Clauses.{clause_value}
use Rattle.std.proofs.Common.{false}
use Rattle.hk_cnf.proofs.assignment.is_satisfied.Given as goal

abbrev pub invariant-loop-lit : goal.invariant-loop-lit
invariant-loop-lit l = clause_value l.values (take l.lit-index l.clause) ≡ false
