use Rattle.hk_symmem.specs.Guarded.{IsOver}
use Rattle.hk_exec_tests.proofs.executed.all_parts.Given as goal

abbrev pub invariant-loop-object : goal.invariant-loop-object
invariant-loop-object g l = IsOver l.t l.memory
