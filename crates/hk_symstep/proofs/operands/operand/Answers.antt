use Rattle.std.proofs.Common.{◌∙◌, ap}
use Rattle.ir_machine.specs.Values as definition
use Rattle.hk_symmem.specs.Guarded.{memory_at}
use Rattle.hk_symstep.specs.Files.{registers_of}
use Rattle.hk_symstep.specs.Held.{value_meaning}
use Rattle.hk_symstep.proofs.Growing.{memory_kept, registers_same}
use Rattle.hk_symstep.proofs.Covering.{input_covered}
use Rattle.hk_symstep.proofs.operands.operand.Goals as goal

pub returns-clause-value : goal.returns-clause-value
returns-clause-value g c = λ v.
    c.in_ok-made.ensures.value v
    ∙ ap (λ m. definition.moved_all m (registers_of c.base_value.new.t v c.args.file.now) (value_meaning c.base_value.new.t v c.in_ok-base.base) c.as_slice.result.now) (memory_kept c.args.t.now c.base_value.new.t c.base_value.ensures.frame c.args.memory.now c.requires.over v)
    ∙ ap (λ rs. definition.moved_all (memory_at c.args.t.now c.args.memory.now v) rs (value_meaning c.base_value.new.t v c.in_ok-base.base) c.as_slice.result.now) (registers_same c.args.t.now c.base_value.new.t c.base_value.ensures.frame v c.args.file.now c.requires.file)
    ∙ ap (λ x. definition.moved_all (memory_at c.args.t.now c.args.memory.now v) (registers_of c.args.t.now v c.args.file.now) x c.as_slice.result.now) (c.in_ok-base.ensures.value v)
    ∙ ap (λ moves. definition.moved_all (memory_at c.args.t.now c.args.memory.now v) (registers_of c.args.t.now v c.args.file.now) (definition.base_value (registers_of c.args.t.now v c.args.file.now) c.args.input.now.base) moves) c.as_slice.ensures

pub returns-clause-covered : goal.returns-clause-covered
returns-clause-covered g c = λ v rs x k e. returns-clause-value g c v ∙ input_covered (memory_at c.args.t.now c.args.memory.now v) rs (registers_of c.args.t.now v c.args.file.now) k c.args.input.now x e
