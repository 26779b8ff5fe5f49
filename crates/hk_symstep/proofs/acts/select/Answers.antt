use Rattle.std.proofs.Common.{◌∙◌, ap}
use Rattle.ir_value.specs.Numbers as numbers
use Rattle.ir_machine.specs.Values as definition
use Rattle.hk_symmem.specs.Guarded.{memory_at}
use Rattle.hk_symstep.specs.Files.{registers_of}
use Rattle.hk_symstep.specs.Held.{value_meaning}
use Rattle.hk_symstep.proofs.Growing.{memory_kept, registers_same, operand_same}
use Rattle.hk_symstep.proofs.StepLaws.{read_three}
use Rattle.hk_symstep.proofs.acts.select.Goals as goal

pub returns-clause-answers : goal.returns-clause-answers
returns-clause-answers g c = λ v.
    read_three c.select.new.t v c.in_ok-made.made numbers.select (value_meaning c.two.new.t v c.in_ok-value.value) (value_meaning c.two.new.t v c.in_ok-operands.operands.a) (value_meaning c.two.new.t v c.in_ok-operands.operands.b)
    (definition.value_of (memory_at c.args.t.now c.args.state.now.memory.now v) (registers_of c.args.t.now v c.args.state.now.file.now) c.args.condition.now) (definition.value_of (memory_at c.args.t.now c.args.state.now.memory.now v) (registers_of c.args.t.now v c.args.state.now.file.now) c.args.inputs.now.a.now) (definition.value_of (memory_at c.args.t.now c.args.state.now.memory.now v) (registers_of c.args.t.now v c.args.state.now.file.now) c.args.inputs.now.b.now)
    (operand_same c.operand.new.t c.two.new.t c.two.ensures.frame v c.in_ok-value.value c.in_ok-value.ensures.within ∙ c.in_ok-value.ensures.value v)
    (c.in_ok-operands.ensures.is_first v ∙ ap (λ m. definition.value_of m (registers_of c.operand.new.t v c.args.state.now.file.now) c.args.inputs.now.a.now) (memory_kept c.args.t.now c.operand.new.t c.operand.ensures.frame c.args.state.now.memory.now c.requires.over v) ∙ ap (λ rs. definition.value_of (memory_at c.args.t.now c.args.state.now.memory.now v) rs c.args.inputs.now.a.now) (registers_same c.args.t.now c.operand.new.t c.operand.ensures.frame v c.args.state.now.file.now c.requires.file))
    (c.in_ok-operands.ensures.is_second v ∙ ap (λ m. definition.value_of m (registers_of c.operand.new.t v c.args.state.now.file.now) c.args.inputs.now.b.now) (memory_kept c.args.t.now c.operand.new.t c.operand.ensures.frame c.args.state.now.memory.now c.requires.over v) ∙ ap (λ rs. definition.value_of (memory_at c.args.t.now c.args.state.now.memory.now v) rs c.args.inputs.now.b.now) (registers_same c.args.t.now c.operand.new.t c.operand.ensures.frame v c.args.state.now.file.now c.requires.file))
    (c.in_ok-made.ensures.answers v)
