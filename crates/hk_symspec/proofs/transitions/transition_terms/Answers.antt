use Rattle.std.proofs.Common.{rules, subst, ◌≡◌}
use Rattle.std.specs.Prelude.{slice_index_or}
use Rattle.spec_tree.specs.Sorted.{IsTransition}
use Rattle.spec_tree.specs.View.{view_spec, view_transition}
use Rattle.spec_tree.specs.Meaning as meaning
use Rattle.hk_symspec.specs.States.{numbers_at, state_at}
use Rattle.hk_symspec.specs.Steps.{IsResultTerm, IsStepAt}
use Rattle.hk_symspec.proofs.Turning.{all_at, found_at, there_at}
use Rattle.hk_symspec.proofs.transitions.transition_terms.Goals as goal

pub step_terms-requires-clause-transition : goal.step_terms-requires-clause-transition
step_terms-requires-clause-transition g c =
    let is : c.index-as_slice-h.result ≡ slice_index_or c.args.spec.now.transitions c.args.h c.index-as_slice-h.result = search rules in
    all_at (IsTransition (view_spec c.args.spec.now)) view_transition c.args.spec.now.transitions c.args.h c.index-as_slice-h.result c.requires.there is c.requires.spec.transitions

pub step_terms-requires-clause-args : goal.step_terms-requires-clause-args
step_terms-requires-clause-args g c =
    let is : c.index-as_slice-h.result ≡ slice_index_or c.args.spec.now.transitions c.args.h c.index-as_slice-h.result = search rules in
    c.requires.args (view_transition c.index-as_slice-h.result) (there_at view_transition c.args.spec.now.transitions c.args.h c.index-as_slice-h.result c.requires.there is)

pub returns-clause-result : goal.returns-clause-result
returns-clause-result g c = λ u found.
    let is : c.index-as_slice-h.result ≡ slice_index_or c.args.spec.now.transitions c.args.h c.index-as_slice-h.result = search rules in
    subst (λ x. IsResultTerm c.step_terms.new.t x c.in_ok-step_terms.field-0.result)
    (found_at view_transition c.args.spec.now.transitions c.args.h c.index-as_slice-h.result u c.requires.there is found) c.in_ok-step_terms.ensures.result

pub returns-clause-value : goal.returns-clause-value
returns-clause-value g c = λ u found v still steady.
    let s = view_spec c.args.spec.now in
    let is : c.index-as_slice-h.result ≡ slice_index_or c.args.spec.now.transitions c.args.h c.index-as_slice-h.result = search rules in
    subst (λ x. IsStepAt s c.step_terms.new.t c.in_ok-step_terms.field-0.valid c.in_ok-step_terms.field-0.state c.in_ok-step_terms.field-0.result v
    (meaning.transition s x (state_at s c.args.t.now c.args.state.now v) (numbers_at c.args.t.now c.args.args.now v)))
    (found_at view_transition c.args.spec.now.transitions c.args.h c.index-as_slice-h.result u c.requires.there is found) (c.in_ok-step_terms.ensures.value v still steady)
