use Rattle.std.proofs.Common.{subst}
use Rattle.ir_machine.specs.Values as definition
use Rattle.hk_symmem.specs.Guarded.{memory_at}
use Rattle.hk_symstep.specs.Files.{registers_of}
use Rattle.hk_symstep.specs.Steps.{AnswersComputed}
use Rattle.hk_symstep.proofs.Growing.{memory_kept}
use Rattle.hk_symstep.proofs.acts.load.Goals as goal

pub returns-clause-answers : goal.returns-clause-answers
returns-clause-answers g c = λ v.
    subst (λ m. AnswersComputed c.loaded.new.t v c.in_ok-made.made (definition.loaded m c.args.state.now.objects.now c.args.load.now.width c.args.load.now.bytes c.args.load.now.align c.args.load.now.spans.now (definition.value_of (memory_at c.args.t.now c.args.state.now.memory.now v) (registers_of c.args.t.now v c.args.state.now.file.now) c.args.address.now))) (memory_kept c.args.t.now c.operand.new.t c.operand.ensures.frame c.args.state.now.memory.now c.requires.over v)
    (subst (λ x. AnswersComputed c.loaded.new.t v c.in_ok-made.made (definition.loaded (memory_at c.operand.new.t c.args.state.now.memory.now v) c.args.state.now.objects.now c.args.load.now.width c.args.load.now.bytes c.args.load.now.align c.args.load.now.spans.now x)) (c.in_ok-value.ensures.value v) (c.in_ok-made.ensures.answers v))
