use Rattle.std.proofs.Common.{sym, subst}
use Rattle.hk_symvalue.proofs.Frames.{followed}
use Rattle.spec_tree.specs.View.{view_spec}
use Rattle.hk_symspec.specs.Steps.{IsResultTerm}
use Rattle.hk_case.specs.Violation.{specified}
use Rattle.hk_oblig.specs.declared.parts.RunParts.{RunParts}
use Rattle.hk_oblig.specs.GoalTruths.{AreRunParts}
use Rattle.hk_oblig.specs.Telling.{TellsRun}
use Rattle.hk_oblig.specs.Asking.{IsTermOf}
use Rattle.hk_oblig.proofs.Growing.{kernel_stays, memory_stays, truth_stays, first_stays, term_stays, wanted_stays}
use Rattle.hk_oblig.proofs.Running.{run_told}
use Rattle.hk_oblig.proofs.run.run_parts.Goals as goal

pub behind_terms-requires-clause-memory : goal.behind_terms-requires-clause-memory
behind_terms-requires-clause-memory g c = kernel_stays c.args.t.now c.first_terms.new.t c.first_terms.ensures.frame (view_spec c.args.spec.now) c.args.run.now.memory c.requires.behind

pub returns-clause-parts : goal.returns-clause-parts
returns-clause-parts g c =
    let t0 = c.args.t.now in
    let t1 = c.first_terms.new.t in
    let t2 = c.behind_terms.new.t in
    let grown = followed t0 t1 t2 c.first_terms.ensures.frame c.behind_terms.ensures.frame in
    subst (AreRunParts t2) (sym c.joined.ensures)
    (record {
      invariants = truth_stays t1 t2 c.behind_terms.ensures.frame c.in_ok-first.first.invariants c.in_ok-first.ensures.invariants;
      undefined = truth_stays t0 t2 grown c.args.run.now.undefined c.requires.undefined;
      kept = c.in_ok-behind.ensures.kept;
      agree = c.in_ok-behind.ensures.agree;
      valid = truth_stays t1 t2 c.behind_terms.ensures.frame c.in_ok-first.first.step.valid c.in_ok-first.ensures.valid;
    })

pub returns-clause-told : goal.returns-clause-told
returns-clause-told g c = λ u at k v m ns h a out.
    let s = view_spec c.args.spec.now in
    let t0 = c.args.t.now in
    let t1 = c.first_terms.new.t in
    let t2 = c.behind_terms.new.t in
    let f = c.in_ok-first.first in
    let b = c.in_ok-behind.behind in
    let grown = followed t0 t1 t2 c.first_terms.ensures.frame c.behind_terms.ensures.frame in
    let p : RunParts = record { invariants = f.invariants; undefined = c.args.run.now.undefined; kept = b.kept; agree = b.agree; result = c.args.run.now.result; valid = f.step.valid; wanted = f.step.result } in
    let first = first_stays t1 t2 c.behind_terms.ensures.frame v s m (specified s u m ns) f.invariants f.step.valid f.step.result c.in_ok-first.ensures.invariants c.in_ok-first.ensures.valid
    c.in_ok-first.ensures.result (c.in_ok-first.ensures.told u at v m ns h a) in
    subst (λ q. TellsRun k t2 v q s u m ns) (sym c.joined.ensures)
    (run_told k t0 t2 grown v p s u m ns c.args.run.now.memory c.requires.undefined c.requires.result first out
    (λ after i. c.in_ok-behind.ensures.told v after (specified s u m ns) (memory_stays t0 t1 c.first_terms.ensures.frame s c.args.run.now.memory v after c.requires.behind i)
    (c.in_ok-first.ensures.state u at v m ns h a)))

pub returns-clause-there : goal.returns-clause-there
returns-clause-there g c =
    let t2 = c.behind_terms.new.t in
    subst (λ q. IsTermOf t2 q.wanted) (sym c.joined.ensures) (term_stays c.first_terms.new.t t2 c.behind_terms.ensures.frame c.in_ok-first.first.step.result c.in_ok-first.ensures.result)

pub returns-clause-wanted : goal.returns-clause-wanted
returns-clause-wanted g c = λ u at.
    let t2 = c.behind_terms.new.t in
    subst (λ q. IsResultTerm t2 u q.wanted) (sym c.joined.ensures) (wanted_stays c.first_terms.new.t t2 c.behind_terms.ensures.frame u c.in_ok-first.first.step.result (c.in_ok-first.ensures.wanted u at))
