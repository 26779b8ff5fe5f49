use Rattle.std.proofs.Common.{sym, subst}
use Rattle.ir_machine.specs.Step.{phi_of, head_of, arm_value, arm_from}
use Rattle.hk_symmem.specs.Guarded.{memory_at}
use Rattle.hk_symexec.specs.Phis.{AnswersHead}
use Rattle.hk_symexec.proofs.phis.head.Goals as goal

pub returns-in_ok-value-in-Phi-clause-within : goal.returns-in_ok-value-in-Phi-clause-within
returns-in_ok-value-in-Phi-clause-within g c = c.phi_of.ensures.within c.arm_value.new.t c.in_ok-value-in-Phi.ensures.within

pub returns-in_ok-value-in-Phi-clause-answers : goal.returns-in_ok-value-in-Phi-clause-answers
returns-in_ok-value-in-Phi-clause-answers g c = λ v rs w.
    subst (λ a. AnswersHead c.arm_value.new.t v c.phi_of.result (head_of (memory_at c.args.t.now c.args.memory.now v) rs c.args.from c.args.step.now.result a)) (sym c.in-Phi.is)
    (subst (λ l. AnswersHead c.arm_value.new.t v c.phi_of.result (phi_of c.args.step.now.result (arm_value (memory_at c.args.t.now c.args.memory.now v) rs (arm_from c.args.from l)))) c.as_slice.ensures
    (c.phi_of.ensures.answers c.arm_value.new.t v (arm_value (memory_at c.args.t.now c.args.memory.now v) rs (arm_from c.args.from c.as_slice.result.now)) (λ x q. c.in_ok-value-in-Phi.ensures.covered v rs x w q)))
