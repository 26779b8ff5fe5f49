use Rattle.std.proofs.Common.{◌≡◌, Some, subst}
use Rattle.ir_machine.specs.Step.{arm_value}
use Rattle.hk_symmem.specs.Guarded.{memory_at}
use Rattle.hk_symexec.proofs.phis.arm_value.Goals as goal

pub returns-in_ok-value-in-Some-clause-covered : goal.returns-in_ok-value-in-Some-clause-covered
returns-in_ok-value-in-Some-clause-covered g c = λ v rs x w q.
    c.in_ok-value-in-Some.ensures.covered v rs x w (subst (λ o. arm_value (memory_at c.args.t.now c.args.memory.now v) rs o ≡ Some x) c.in-Some.ensures.some q)
