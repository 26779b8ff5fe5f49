use Rattle.ir_machine.specs.Values as definition
use Rattle.ir_machine.specs.Step as steps
use Rattle.hk_symmem.specs.Guarded.{memory_at}
use Rattle.hk_symstep.specs.Files.{registers_of}
use Rattle.hk_symstep.proofs.Covering.{answers, slot_below}
use Rattle.hk_symstep.proofs.acts.stored_slot.Goals as goal

pub returns-clause-answers : goal.returns-clause-answers
returns-clause-answers g c = λ v rs k.
    answers c.slot_given.new.t v c.in_ok-made.made (steps.slot_stored c.args.to.align (definition.value_of (memory_at c.args.t.now c.args.memory.now v) rs c.args.value.now) (definition.held_at rs c.args.to.slot)) (steps.slot_stored c.args.to.align (definition.value_of (memory_at c.args.t.now c.args.memory.now v) (registers_of c.args.t.now v c.args.file.now) c.args.value.now) (definition.held_at (registers_of c.args.t.now v c.args.file.now) c.args.to.slot))
    (slot_below (memory_at c.args.t.now c.args.memory.now v) rs (registers_of c.args.t.now v c.args.file.now) k c.args.to.align c.args.value.now c.args.to.slot) (c.in_ok-made.ensures.answers v)
