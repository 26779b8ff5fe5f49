use Rattle.std.proofs.Common.{rules, ◌≡◌, List, ℕ, refl, sym, subst, ap, ◌∙◌}
use Rattle.std.specs.Prelude.{All, slice_index_or}
use Rattle.hk_term.specs.Meaning.{Reading}
use Rattle.hk_symvalue.proofs.Frames.{followed}
use Rattle.hk_symvalue.specs.Growth.{Extends}
use Rattle.spec_tree.specs.Plain as plain
use Rattle.spec_tree.specs.Sorted.{IsWidth, field_sorts}
use Rattle.spec_tree.specs.View.{view_named, view_spec, view_transition}
use Rattle.spec_tree.specs.Meaning.{State, transition}
use Rattle.hk_term.specs.declared.node.Node.{Node}
use Rattle.hk_symspec.specs.States.{free_state}
use Rattle.hk_symspec.specs.Standing.{formula_base}
use Rattle.hk_symspec.specs.Steps.{AreArgumentTerms}
use Rattle.hk_oblig.specs.Cases.{arguments_at}
use Rattle.hk_oblig.specs.Under.{AreNumbersAt, IsStateAt}
use Rattle.hk_oblig.proofs.Turns.{found_at}
use Rattle.hk_oblig.proofs.Growing.{terms_stay, numbers_stay, true_stays}
use Rattle.hk_oblig.proofs.Owing.{many, step_goals}
use Rattle.hk_oblig.proofs.Running.{ready_step}
use Rattle.hk_oblig.proofs.Fitting.{widths_fit}
use Rattle.hk_oblig.proofs.step.step_listed.Goals as goal

pub argument_terms-requires : goal.argument_terms-requires
argument_terms-requires c =
    let x = c.index-as_slice-h.result in
    let is : x ≡ slice_index_or c.args.spec.now.transitions c.args.h x = search rules in
    record {
      widths = subst (All IsWidth) (sym c.as_slice-3.ensures) (widths_fit (view_spec c.args.spec.now) c.requires.spec c.args.spec.now.transitions c.args.h x c.requires.there is refl);
    }

pub all_properties-requires-clause-over : goal.all_properties-requires-clause-over
all_properties-requires-clause-over c = c.free-state.ensures.over c.argument_terms.new.t

pub step_from-requires-clause-over : goal.step_from-requires-clause-over
step_from-requires-clause-over c = c.free-state.ensures.over c.all_properties.new.t

pub step_from-requires-clause-args : goal.step_from-requires-clause-args
step_from-requires-clause-args c = λ u at.
    let x = c.index-as_slice-h.result in
    let is : x ≡ slice_index_or c.args.spec.now.transitions c.args.h x = search rules in
    let same : view_transition x ≡ u = found_at view_transition c.args.spec.now.transitions c.args.h x u c.requires.there is at in
    let ws : c.as_slice-3.result.now ≡ u.widths = c.as_slice-3.ensures ∙ ap (λ (t : plain.Transition). t.widths) same in
    subst (λ (l : List ℕ). AreArgumentTerms c.all_properties.new.t u.widths l) (sym c.as_slice-4.ensures)
    (terms_stay c.argument_terms.new.t c.all_properties.new.t c.all_properties.ensures.frame u.widths c.in_ok-args.args
    (subst (λ (l : List ℕ). AreArgumentTerms c.argument_terms.new.t l c.in_ok-args.args) ws c.in_ok-args.ensures.terms))

pub returns-clause-ready : goal.returns-clause-ready
returns-clause-ready c = λ u at m origins k.
    let s = view_spec c.args.spec.now in
    let x = c.index-as_slice-h.result in
    let is : x ≡ slice_index_or c.args.spec.now.transitions c.args.h x = search rules in
    let same : view_transition x ≡ u = found_at view_transition c.args.spec.now.transitions c.args.h x u c.requires.there is at in
    let ws : c.as_slice-3.result.now ≡ u.widths = c.as_slice-3.ensures ∙ ap (λ (t : plain.Transition). t.widths) same in
    let t0 = c.argument_terms.new.t in
    let t1 = c.all_properties.new.t in
    let t2 = c.step_from.new.t in
    let t3 = c.property_terms.new.t in
    let later : Extends t1 t3 = followed t1 t2 t3 c.step_from.ensures.frame c.property_terms.ensures.frame in
    let free : Reading → State = λ v. free_state 0 (field_sorts s) v.entry in
    let state : (nodes : List Node) (v : Reading) → IsStateAt s nodes c.free-state.result v (free v) = λ nodes v. record { same = c.free-state.ensures.value nodes v; steady = c.free-state.ensures.steady formula_base nodes v } in
    let terms : AreArgumentTerms t0 u.widths c.in_ok-args.args = subst (λ (l : List ℕ). AreArgumentTerms t0 l c.in_ok-args.args) ws c.in_ok-args.ensures.terms in
    let numbers : (v : Reading) → AreNumbersAt t1 c.as_slice-4.result.now v (arguments_at u.widths v.var) = λ v.
    subst (λ (l : List ℕ). AreNumbersAt t1 l v (arguments_at u.widths v.var)) (sym c.as_slice-4.ensures)
    (numbers_stay t0 t1 c.all_properties.ensures.frame u.widths c.in_ok-args.args v (arguments_at u.widths v.var) terms
    (subst (λ (l : List ℕ). AreNumbersAt t0 c.in_ok-args.args v (arguments_at l v.var)) ws (c.in_ok-args.ensures.numbers v))) in
    ready_step m origins s u t3 (record { properties = c.in_ok-properties.properties; behind = c.in_ok-behind.behind }) k
    (step_goals t3 s u (record { properties = c.in_ok-properties.properties; behind = c.in_ok-behind.behind }) k (c.in_ok-behind.ensures.count ∙ many view_named c.args.spec.now.properties))
    (λ v.
    let step = c.in_ok-step.ensures.told u at v (free v) (arguments_at u.widths v.var) (state t1 v) (numbers v) in
    let held = c.in_ok-properties.ensures.told v (free v) (state t0 v) in
    let stays = true_stays t1 t3 later c.in_ok-properties.properties c.in_ok-properties.ensures.truth v in
    record {
      properties = (λ e. held.0 (sym stays ∙ e), λ a. stays ∙ held.1 a);
      behind = c.in_ok-behind.ensures.told v (transition s u (free v) (arguments_at u.widths v.var)).state step.state;
    })
