use Rattle.hk_symmem.specs.Guarded.{IsOver}
use Rattle.hk_exec_tests.proofs.executed.object_parts.Given as goal

abbrev pub invariant-loop-place : goal.invariant-loop-place
invariant-loop-place g l = IsOver l.t l.memory
