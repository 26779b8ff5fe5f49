use Rattle.std.proofs.Common.{rules, ap, ◌∙◌, ◌≡◌, slice_index_or}
use Rattle.spec_tree.specs.Sorted.{IsTransition}
use Rattle.spec_tree.specs.View.{view_spec, view_transition}
use Rattle.spec_tree.specs.Meaning as meaning
use Rattle.spec_state.proofs.Turns.{all_at, found_at, there_at}
use Rattle.spec_state.proofs.steps.transition.Goals as goal

pub step_of-requires-clause-transition : goal.step_of-requires-clause-transition
step_of-requires-clause-transition c =
    let is : c.index-as_slice-h.result ≡ slice_index_or c.args.spec.now.transitions c.args.h c.index-as_slice-h.result = search rules in
    all_at (IsTransition (view_spec c.args.spec.now)) view_transition c.args.spec.now.transitions c.args.h c.index-as_slice-h.result c.requires.there is c.requires.spec.transitions

pub step_of-requires-clause-args : goal.step_of-requires-clause-args
step_of-requires-clause-args c =
    let is : c.index-as_slice-h.result ≡ slice_index_or c.args.spec.now.transitions c.args.h c.index-as_slice-h.result = search rules in
    c.requires.args (view_transition c.index-as_slice-h.result) (there_at view_transition c.args.spec.now.transitions c.args.h c.index-as_slice-h.result c.requires.there is)

pub returns : goal.returns
returns c = λ t found.
    let is : c.index-as_slice-h.result ≡ slice_index_or c.args.spec.now.transitions c.args.h c.index-as_slice-h.result = search rules in
    c.in_ok-step_of.ensures
    ∙ ap (λ x. meaning.transition (view_spec c.args.spec.now) x c.args.state.now c.args.args.now) (found_at view_transition c.args.spec.now.transitions c.args.h c.index-as_slice-h.result t c.requires.there is found)
