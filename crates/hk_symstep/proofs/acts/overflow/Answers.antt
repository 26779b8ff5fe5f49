use Rattle.std.proofs.Common.{subst}
use Rattle.ir_value.specs.Intrinsics as intrinsics
use Rattle.ir_machine.specs.Values as definition
use Rattle.hk_symmem.specs.Guarded.{memory_at}
use Rattle.hk_symstep.specs.Files.{registers_of}
use Rattle.hk_symstep.specs.Held.{value_meaning}
use Rattle.hk_symstep.specs.Steps.{AnswersComputed}
use Rattle.hk_symstep.proofs.acts.overflow.Goals as goal

pub returns-clause-answers : goal.returns-clause-answers
returns-clause-answers g c = λ v.
    subst (λ x. AnswersComputed c.overflow.new.t v c.in_ok-made.made (definition.on_pair (intrinsics.with_overflow c.args.kind c.args.signed c.args.width) x (definition.value_of (memory_at c.args.t.now c.args.state.now.memory.now v) (registers_of c.args.t.now v c.args.state.now.file.now) c.args.inputs.now.b.now))) (c.in_ok-operands.ensures.is_first v)
    (subst (λ y. AnswersComputed c.overflow.new.t v c.in_ok-made.made (definition.on_pair (intrinsics.with_overflow c.args.kind c.args.signed c.args.width) (value_meaning c.two.new.t v c.in_ok-operands.operands.a) y)) (c.in_ok-operands.ensures.is_second v) (c.in_ok-made.ensures.answers v))
