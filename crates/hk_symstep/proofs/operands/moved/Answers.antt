use Rattle.std.proofs.Common.{◌∙◌, ap, sym}
use Rattle.ir_machine.specs.Values as definition
use Rattle.hk_symvalue.specs.Meaning.{meaning}
use Rattle.hk_symmem.specs.Guarded.{memory_at}
use Rattle.hk_symstep.specs.Files.{registers_of}
use Rattle.hk_symstep.specs.Held.{value_meaning}
use Rattle.hk_symstep.proofs.Growing.{memory_kept, meaning_same}
use Rattle.hk_symstep.proofs.operands.moved.Goals as goal

pub returns-in_ok-made-in-By-clause-value : goal.returns-in_ok-made-in-By-clause-value
returns-in_ok-made-in-By-clause-value g c = λ v.
    c.in_ok-made-in-By.ensures.value v
    ∙ ap (λ m. definition.stepped m c.in-By.inbounds c.in-By.nuw c.in-By.width c.in-By.each (value_meaning c.base_value.new.t v c.in_ok-index-in-By.index) (meaning c.base_value.new.t c.args.from v)) (memory_kept c.args.t.now c.base_value.new.t c.base_value.ensures.frame c.args.memory.now c.requires.over v)
    ∙ ap (λ x. definition.stepped (memory_at c.args.t.now c.args.memory.now v) c.in-By.inbounds c.in-By.nuw c.in-By.width c.in-By.each x (meaning c.base_value.new.t c.args.from v)) (c.in_ok-index-in-By.ensures.value v)
    ∙ ap (λ x. definition.stepped (memory_at c.args.t.now c.args.memory.now v) c.in-By.inbounds c.in-By.nuw c.in-By.width c.in-By.each (definition.base_value (registers_of c.args.t.now v c.args.file.now) c.in-By.index) x) (meaning_same c.args.t.now c.base_value.new.t c.base_value.ensures.frame v c.args.from c.requires.from)
    ∙ ap (λ b. definition.moved (memory_at c.args.t.now c.args.memory.now v) (registers_of c.args.t.now v c.args.file.now) b (meaning c.args.t.now c.args.from v)) (sym c.in-By.is)
