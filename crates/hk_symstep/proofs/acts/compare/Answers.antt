use Rattle.ir_value.specs.Numbers as numbers
use Rattle.ir_machine.specs.Values as definition
use Rattle.hk_symmem.specs.Guarded.{memory_at}
use Rattle.hk_symstep.specs.Files.{registers_of}
use Rattle.hk_symstep.specs.Held.{value_meaning}
use Rattle.hk_symstep.proofs.StepLaws.{read_two}
use Rattle.hk_symstep.proofs.acts.compare.Goals as goal

pub returns-clause-answers : goal.returns-clause-answers
returns-clause-answers g c = λ v.
    read_two c.compare.new.t v c.in_ok-made.made (numbers.compare_numbers c.args.samesign c.args.predicate c.args.width) (value_meaning c.two.new.t v c.in_ok-operands.operands.a) (value_meaning c.two.new.t v c.in_ok-operands.operands.b)
    (definition.value_of (memory_at c.args.t.now c.args.state.now.memory.now v) (registers_of c.args.t.now v c.args.state.now.file.now) c.args.inputs.now.a.now) (definition.value_of (memory_at c.args.t.now c.args.state.now.memory.now v) (registers_of c.args.t.now v c.args.state.now.file.now) c.args.inputs.now.b.now)
    (c.in_ok-operands.ensures.is_first v) (c.in_ok-operands.ensures.is_second v) (c.in_ok-made.ensures.answers v)
