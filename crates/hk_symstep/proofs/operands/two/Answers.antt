use Rattle.std.proofs.Common.{◌∙◌, ap}
use Rattle.ir_machine.specs.Values as definition
use Rattle.hk_symmem.specs.Guarded.{memory_at}
use Rattle.hk_symstep.specs.Files.{registers_of}
use Rattle.hk_symstep.proofs.Growing.{memory_kept, registers_same, operand_same}
use Rattle.hk_symstep.proofs.operands.two.Goals as goal

pub returns-clause-is_first : goal.returns-clause-is_first
returns-clause-is_first g c = λ v. operand_same c.operand.new.t c.operand-2.new.t c.operand-2.ensures.frame v c.in_ok-first.first c.in_ok-first.ensures.within ∙ c.in_ok-first.ensures.value v

pub returns-clause-is_second : goal.returns-clause-is_second
returns-clause-is_second g c = λ v.
    c.in_ok-second.ensures.value v
    ∙ ap (λ m. definition.value_of m (registers_of c.operand.new.t v c.args.file.now) c.args.inputs.now.b.now) (memory_kept c.args.t.now c.operand.new.t c.operand.ensures.frame c.args.memory.now c.requires.over v)
    ∙ ap (λ rs. definition.value_of (memory_at c.args.t.now c.args.memory.now v) rs c.args.inputs.now.b.now) (registers_same c.args.t.now c.operand.new.t c.operand.ensures.frame v c.args.file.now c.requires.file)
