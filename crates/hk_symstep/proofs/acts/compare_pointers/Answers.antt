use Rattle.std.proofs.Common.{subst}
use Rattle.ir_machine.specs.Values as definition
use Rattle.hk_symmem.specs.Guarded.{memory_at}
use Rattle.hk_symstep.specs.Files.{registers_of}
use Rattle.hk_symstep.specs.Held.{value_meaning}
use Rattle.hk_symstep.specs.Steps.{AnswersComputed}
use Rattle.hk_symstep.proofs.Growing.{memory_kept}
use Rattle.hk_symstep.proofs.StepLaws.{read_two}
use Rattle.hk_symstep.proofs.acts.compare_pointers.Goals as goal

pub returns-clause-answers : goal.returns-clause-answers
returns-clause-answers g c = λ v.
    subst (λ m. AnswersComputed c.compare_pointers.new.t v c.in_ok-made.made (definition.on_two (definition.compare_sized m c.args.predicate) (definition.value_of (memory_at c.args.t.now c.args.state.now.memory.now v) (registers_of c.args.t.now v c.args.state.now.file.now) c.args.inputs.now.a.now) (definition.value_of (memory_at c.args.t.now c.args.state.now.memory.now v) (registers_of c.args.t.now v c.args.state.now.file.now) c.args.inputs.now.b.now))) (memory_kept c.args.t.now c.two.new.t c.two.ensures.frame c.args.state.now.memory.now c.requires.over v)
    (read_two c.compare_pointers.new.t v c.in_ok-made.made (definition.compare_sized (memory_at c.two.new.t c.args.state.now.memory.now v) c.args.predicate) (value_meaning c.two.new.t v c.in_ok-operands.operands.a) (value_meaning c.two.new.t v c.in_ok-operands.operands.b)
    (definition.value_of (memory_at c.args.t.now c.args.state.now.memory.now v) (registers_of c.args.t.now v c.args.state.now.file.now) c.args.inputs.now.a.now) (definition.value_of (memory_at c.args.t.now c.args.state.now.memory.now v) (registers_of c.args.t.now v c.args.state.now.file.now) c.args.inputs.now.b.now)
    (c.in_ok-operands.ensures.is_first v) (c.in_ok-operands.ensures.is_second v) (c.in_ok-made.ensures.answers v))
