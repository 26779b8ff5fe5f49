use Rattle.std.proofs.Common.{◌≡◌, ◌+◌, Some, sym, ap, ◌∙◌, subst, drop}
use Rattle.std.proofs.lemmas.List.{drop_all}
use Rattle.ir_machine.specs.Step.{head_of, staged}
use Rattle.hk_symmem.specs.Guarded.{memory_at}
use Rattle.hk_symexec.specs.Phis.{AnswersHead, IsHead, phis_meaning}
use Rattle.hk_symexec.proofs.PhiLaws.{Staging, staging_on, staging_ends, staging_lost, drop_next}
use Rattle.hk_symexec.proofs.phis.staged.Goals as goal

pub returns-in-Ends-clause-covered : goal.returns-in-Ends-clause-covered
returns-in-Ends-clause-covered g c = λ v rs ps w q.
    ap (λ l. Some (phis_meaning c.head.new.t v l)) c.from_vec.ensures
    ∙ staging_ends c.args.t.now c.loop-step.t c.head.new.t c.args.file.now c.args.memory.now c.args.from c.args.steps.now (drop (c.loop-step.step-index + 1) c.args.steps.now) c.step-item.result c.loop-step.found.items
    (subst (λ l. Staging c.args.t.now c.loop-step.t c.args.file.now c.args.memory.now c.args.from c.args.steps.now l c.loop-step.found.items) (drop_next c.args.steps.now c.loop-step.step-index c.step-item.result c.loop-step-test.true c.step-item.is) c.loop-step.invariant)
    c.requires.file c.requires.over c.head.ensures.frame
    (λ v rs w. subst (λ h. AnswersHead c.head.new.t v h (head_of (memory_at c.loop-step.t c.args.memory.now v) rs c.args.from c.step-item.result.result c.step-item.result.act)) c.in-Ends.is (c.in_ok-head.ensures.answers v rs w)) v rs ps w q

pub returns-in-Lost-clause-covered : goal.returns-in-Lost-clause-covered
returns-in-Lost-clause-covered g c = λ v rs ps w q.
    absurd (staging_lost c.args.t.now c.loop-step.t c.head.new.t c.args.file.now c.args.memory.now c.args.from c.args.steps.now (drop (c.loop-step.step-index + 1) c.args.steps.now) c.step-item.result c.loop-step.found.items
    (subst (λ l. Staging c.args.t.now c.loop-step.t c.args.file.now c.args.memory.now c.args.from c.args.steps.now l c.loop-step.found.items) (drop_next c.args.steps.now c.loop-step.step-index c.step-item.result c.loop-step-test.true c.step-item.is) c.loop-step.invariant)
    c.requires.file c.requires.over c.head.ensures.frame
    (λ v rs w. subst (λ h. AnswersHead c.head.new.t v h (head_of (memory_at c.loop-step.t c.args.memory.now v) rs c.args.from c.step-item.result.result c.step-item.result.act)) c.in-Lost.is (c.in_ok-head.ensures.answers v rs w)) v rs ps w q)

pub loop-step-preserved : goal.loop-step-preserved
loop-step-preserved g c =
    subst (λ l. Staging c.args.t.now c.head.new.t c.args.file.now c.args.memory.now c.args.from c.args.steps.now (drop (c.loop-step.step-index + 1) c.args.steps.now) l) (sym c.in_ok-push-in-Reads.ensures.items)
    (staging_on c.args.t.now c.loop-step.t c.head.new.t c.args.file.now c.args.memory.now c.args.from c.args.steps.now (drop (c.loop-step.step-index + 1) c.args.steps.now) c.step-item.result c.loop-step.found.items
    (subst (λ l. Staging c.args.t.now c.loop-step.t c.args.file.now c.args.memory.now c.args.from c.args.steps.now l c.loop-step.found.items) (drop_next c.args.steps.now c.loop-step.step-index c.step-item.result c.loop-step-test.true c.step-item.is) c.loop-step.invariant)
    c.requires.file c.requires.over c.head.ensures.frame
    c.in-Reads.phi (subst (IsHead c.head.new.t) c.in-Reads.is c.in_ok-head.ensures.within)
    (λ v rs w. subst (λ h. AnswersHead c.head.new.t v h (head_of (memory_at c.loop-step.t c.args.memory.now v) rs c.args.from c.step-item.result.result c.step-item.result.act)) c.in-Reads.is (c.in_ok-head.ensures.answers v rs w)))

pub returns-clause-covered : goal.returns-clause-covered
returns-clause-covered g c = λ v rs ps w q.
    ap (λ l. Some (phis_meaning c.loop-step.t v l)) c.from_vec-2.ensures
    ∙ subst (λ l. staged (memory_at c.args.t.now c.args.memory.now v) rs c.args.from l (phis_meaning c.loop-step.t v c.loop-step.found.items) ≡ Some ps)
    (drop_all c.loop-step.step-index c.args.steps.now c.loop-step-test.false) (c.loop-step.invariant.goes v rs ps w q)
