use Rattle.std.proofs.Common.{subst, sym}
use Rattle.hk_symmem.specs.Guarded.{memory_at}
use Rattle.hk_symvalue.specs.Meaning.{meaning}
use Rattle.hk_symaccess.specs.Accesses.{loaded_number}
use Rattle.hk_symstep.specs.Steps.{AnswersComputed}
use Rattle.hk_symstep.proofs.LoadLaws.{as_spans}
use Rattle.hk_symstep.proofs.loads.loaded_at.Goals as goal

pub returns-clause-answers : goal.returns-clause-answers
returns-clause-answers g c = λ v.
    subst (AnswersComputed c.against_spans.new.t v c.in_ok-computed.computed) (sym (as_spans (memory_at c.args.t.now c.args.memory.now v) c.args.objects.now c.args.load.now.width c.args.load.now.bytes c.args.load.now.align c.args.load.now.spans.now (meaning c.args.t.now c.args.address v)))
    (c.in_ok-computed.ensures.answers v (loaded_number (memory_at c.args.t.now c.args.memory.now v) c.args.objects.now c.args.load.now.bytes c.args.load.now.align (meaning c.args.t.now c.args.address v)) (c.in_ok-made.ensures.answers v))
