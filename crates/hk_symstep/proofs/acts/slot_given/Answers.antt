use Rattle.std.proofs.Common.{◌∙◌, ap}
use Rattle.ir_machine.specs.Values as definition
use Rattle.hk_symmem.specs.Guarded.{memory_at}
use Rattle.hk_symstep.specs.Files.{registers_of}
use Rattle.hk_symstep.specs.Held.{value_meaning, place_meaning}
use Rattle.hk_symstep.proofs.Growing.{registers_same}
use Rattle.hk_symstep.proofs.StepLaws.{read_stored}
use Rattle.hk_symstep.proofs.acts.slot_given.Goals as goal

pub returns-clause-answers : goal.returns-clause-answers
returns-clause-answers g c = λ v.
    read_stored c.slot_stored.new.t v c.in_ok-made.made c.args.to.align (value_meaning c.operand.new.t v c.in_ok-stored.stored) (definition.value_of (memory_at c.args.t.now c.args.memory.now v) (registers_of c.args.t.now v c.args.file.now) c.args.value.now) (place_meaning c.operand.new.t v c.held-held.result) (definition.held_at (registers_of c.args.t.now v c.args.file.now) c.args.to.slot)
    (c.in_ok-stored.ensures.value v) (c.held-held.ensures.meaning c.operand.new.t v ∙ ap (λ rs. definition.held_at rs c.args.to.slot) (registers_same c.args.t.now c.operand.new.t c.operand.ensures.frame v c.args.file.now c.requires.file)) (c.in_ok-made.ensures.answers v)
