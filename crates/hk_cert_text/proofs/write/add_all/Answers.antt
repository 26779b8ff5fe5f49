use Rattle.std.proofs.Common.{length, map, rules, subst, sym}
use Rattle.std.proofs.lemmas.Slice.Zip.{zip_turn, zip_end}
use Rattle.std.specs.List.{zip}
use Rattle.ir_ast.specs.ProgramView.{view_module}
use Rattle.spec_tree.specs.View.{view_spec, view_transition}
use Rattle.hk_verdict.specs.Report.{IsShownVerdict}
use Rattle.hk_cert_text.specs.Certificate.{entry_of, entry_text}
use Rattle.hk_cert_text.proofs.Behind.{adds_next, adds_all, one_longer, zipped_all, mapped_within, mapped_at, mapped_end}
use Rattle.hk_cert_text.proofs.write.add_all.Goals as goal

pub add_entry-requires-clause-shape : goal.add_entry-requires-clause-shape
add_entry-requires-clause-shape c =
    let ks = c.args.spec.now.transitions in
    let vs = c.args.verdicts.now in
    let done = c.loop-transition.yielded in
    let turn = zip_turn ks vs done c.into_iter-transition-iterator.result c.loop-transition.transition-iterator c.next.new.self c.next.result (search rules) (search rules) c.loop-transition.yielded_by
    (c.in-Some.transition, c.in-Some.verdict) c.in-Some.is c.next.ensures.steps in
    subst (IsShownVerdict (view_spec c.args.spec.now)) (sym (turn.3 c.in-Some.verdict.now)) (c.requires.shapes (length done) c.in-Some.verdict.now turn.1)

pub loop-transition-preserved : goal.loop-transition-preserved
loop-transition-preserved c =
    let ks = c.args.spec.now.transitions in
    let vs = c.args.verdicts.now in
    let done = c.loop-transition.yielded in
    let turn = zip_turn ks vs done c.into_iter-transition-iterator.result c.loop-transition.transition-iterator c.next.new.self c.next.result (search rules) (search rules) c.loop-transition.yielded_by
    (c.in-Some.transition, c.in-Some.verdict) c.in-Some.is c.next.ensures.steps in
    adds_next (λ e. entry_text (view_module c.args.kernel.now) (view_spec c.args.spec.now) e.0 (entry_of e.1)) (zip (map view_transition ks) vs) (length done) _ _ (view_transition c.in-Some.transition.now, c.in-Some.verdict.now) _ _ _
    (mapped_within view_transition ks vs (length done) turn.0 turn.1) (mapped_at view_transition ks vs (length done) _ _ turn.0 turn.1 (turn.2 _) (turn.3 _)) (one_longer done _)
    c.loop-transition.invariant c.in_ok-add_entry.ensures

pub returns : goal.returns
returns c =
    let ks = c.args.spec.now.transitions in
    let vs = c.args.verdicts.now in
    let done = c.loop-transition.yielded in
    let end = zip_end ks vs done c.into_iter-transition-iterator.result c.loop-transition.transition-iterator c.next.new.self c.next.result (search rules) (search rules) c.loop-transition.yielded_by c.in-None.is c.next.ensures.steps in
    zipped_all (λ e. entry_text (view_module c.args.kernel.now) (view_spec c.args.spec.now) e.0 e.1) entry_of (map view_transition ks) vs _ _
    (adds_all (λ e. entry_text (view_module c.args.kernel.now) (view_spec c.args.spec.now) e.0 (entry_of e.1)) (zip (map view_transition ks) vs) (length done) _ _ (mapped_end view_transition ks vs (length done) end) c.loop-transition.invariant)
