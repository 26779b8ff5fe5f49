use Rattle.std.proofs.Common.{rules, ◌≡◌, List, ℕ, refl, sym, subst, ap, ◌∙◌}
use Rattle.std.specs.Prelude.{All, slice_index_or}
use Rattle.hk_term.specs.Meaning.{Reading}
use Rattle.ir_ast.specs.ProgramView.{view_module}
use Rattle.hk_symmem.specs.Origins.{start_memory}
use Rattle.spec_tree.specs.Plain as plain
use Rattle.spec_tree.specs.Sorted.{IsWidth}
use Rattle.spec_tree.specs.View.{view_field, view_named, view_spec, view_transition}
use Rattle.hk_symspec.specs.Steps.{AreArgumentTerms}
use Rattle.hk_symresult.specs.Results as results
use Rattle.hk_oblig.specs.Cases.{arguments_at}
use Rattle.hk_oblig.specs.Under.{AreNumbersAt, IsMemoryAt, TellOut}
use Rattle.hk_oblig.proofs.Turns.{found_at}
use Rattle.hk_oblig.proofs.Growing.{terms_stay, numbers_stay, returned_stays}
use Rattle.hk_oblig.proofs.Executing.{start_is}
use Rattle.hk_oblig.proofs.Owing.{many, run_goals}
use Rattle.hk_oblig.proofs.Running.{ready_run}
use Rattle.hk_oblig.proofs.Fitting.{widths_fit, result_narrow, handled}
use Rattle.hk_oblig.proofs.run.run_listed.Goals as goal

pub argument_terms-requires : goal.argument_terms-requires
argument_terms-requires g c =
    let x = c.index-as_slice-h.result in
    let is : x ≡ slice_index_or c.args.spec.now.transitions c.args.h x = search rules in
    record {
      widths = subst (All IsWidth) (sym c.as_slice-2.ensures) (widths_fit (view_spec c.args.spec.now) c.requires.spec c.args.spec.now.transitions c.args.h x c.requires.there is refl);
    }

pub executed-requires-clause-handled : goal.executed-requires-clause-handled
executed-requires-clause-handled g c =
    let x = c.index-as_slice-h.result in
    let is : x ≡ slice_index_or c.args.spec.now.transitions c.args.h x = search rules in
    handled (view_spec c.args.spec.now) c.requires.spec c.args.spec.now.transitions c.args.h x c.requires.there is refl (view_module c.args.kernel.now) c.requires.fits

pub executed-requires-clause-width : goal.executed-requires-clause-width
executed-requires-clause-width g c =
    let x = c.index-as_slice-h.result in
    let is : x ≡ slice_index_or c.args.spec.now.transitions c.args.h x = search rules in
    result_narrow (view_spec c.args.spec.now) c.requires.spec c.args.spec.now.transitions c.args.h x c.requires.there is refl

pub executed-requires-clause-over : goal.executed-requires-clause-over
executed-requires-clause-over g c = c.in_ok-start.ensures.over c.argument_terms.new.t

pub run_parts-requires-clause-args : goal.run_parts-requires-clause-args
run_parts-requires-clause-args g c = λ u at.
    let x = c.index-as_slice-h.result in
    let is : x ≡ slice_index_or c.args.spec.now.transitions c.args.h x = search rules in
    let same : view_transition x ≡ u = found_at view_transition c.args.spec.now.transitions c.args.h x u c.requires.there is at in
    let ws : c.as_slice-2.result.now ≡ u.widths = c.as_slice-2.ensures ∙ ap (λ (t : plain.Transition). t.widths) same in
    subst (λ (l : List ℕ). AreArgumentTerms c.executed.new.t u.widths l) (sym c.as_slice-4.ensures)
    (terms_stay c.argument_terms.new.t c.executed.new.t c.executed.ensures.frame u.widths c.in_ok-args.args (subst (λ (l : List ℕ). AreArgumentTerms c.argument_terms.new.t l c.in_ok-args.args) ws c.in_ok-args.ensures.terms))

pub returns-clause-ready : goal.returns-clause-ready
returns-clause-ready g c = λ u at o run.
    let m = view_module c.args.kernel.now in
    let s = view_spec c.args.spec.now in
    let xs = g.R.InitialReads.origins c.args.reads in
    let x = c.index-as_slice-h.result in
    let is : x ≡ slice_index_or c.args.spec.now.transitions c.args.h x = search rules in
    let same : view_transition x ≡ u = found_at view_transition c.args.spec.now.transitions c.args.h x u c.requires.there is at in
    let ws : c.as_slice-2.result.now ≡ u.widths = c.as_slice-2.ensures ∙ ap (λ (t : plain.Transition). t.widths) same in
    let t1 = c.argument_terms.new.t in
    let t2 = c.executed.new.t in
    let t3 = c.run_parts.new.t in
    let p = c.in_ok-parts.parts in
    let r = c.in_ok-run.run' in
    let terms : AreArgumentTerms t1 u.widths c.in_ok-args.args = subst (λ (l : List ℕ). AreArgumentTerms t1 l c.in_ok-args.args) ws c.in_ok-args.ensures.terms in
    let start : (v : Reading) → IsMemoryAt t1 c.in_ok-start.start v (start_memory xs v.entry) = λ v. start_is t1 c.in_ok-start.start xs v (λ w. c.in_ok-start.ensures.value t1 w) in
    let later : (v : Reading) → IsMemoryAt t2 c.in_ok-start.start v (start_memory xs v.entry) = λ v. start_is t2 c.in_ok-start.start xs v (λ w. c.in_ok-start.ensures.value t2 w) in
    let numbers : (v : Reading) → AreNumbersAt t1 c.in_ok-args.args v (arguments_at u.widths v.var) =
    λ v. subst (λ (l : List ℕ). AreNumbersAt t1 c.in_ok-args.args v (arguments_at l v.var)) ws (c.in_ok-args.ensures.numbers v) in
    let returned : results.IsResultTerm t3 u.result_width p.result =
    subst (λ (w : ℕ). results.IsResultTerm t3 w p.result) (ap (λ (t : plain.Transition). t.result_width) same)
    (subst (results.IsResultTerm t3 x.result_width) (sym c.in_ok-parts.ensures.returned) (returned_stays t2 t3 c.run_parts.ensures.frame x.result_width r.result c.in_ok-run.ensures.result)) in
    ready_run m xs s u t3 p o run
    (run_goals t3 s u p o (c.in_ok-parts.ensures.invariants ∙ many view_named c.args.spec.now.invariants) (c.in_ok-parts.ensures.fields ∙ many view_field c.args.spec.now.fields) returned (c.in_ok-parts.ensures.wanted u at) run)
    (λ v.
    let out : TellOut m t2 v x.function (start_memory xs v.entry) (arguments_at u.widths v.var) r.undefined r.result r.memory =
    c.in_ok-run.ensures.told v (start_memory xs v.entry) (arguments_at u.widths v.var) (start v) (subst (λ (l : List ℕ). AreNumbersAt t1 l v (arguments_at u.widths v.var)) (sym c.as_slice-3.ensures) (numbers v)) in
    c.in_ok-parts.ensures.told u at m v (start_memory xs v.entry) (arguments_at u.widths v.var) (later v)
    (subst (λ (l : List ℕ). AreNumbersAt t2 l v (arguments_at u.widths v.var)) (sym c.as_slice-4.ensures) (numbers_stay t1 t2 c.executed.ensures.frame u.widths c.in_ok-args.args v (arguments_at u.widths v.var) terms (numbers v)))
    (subst (λ (f : ℕ). TellOut m t2 v f (start_memory xs v.entry) (arguments_at u.widths v.var) r.undefined r.result r.memory) (ap (λ (t : plain.Transition). t.function) same) out))
