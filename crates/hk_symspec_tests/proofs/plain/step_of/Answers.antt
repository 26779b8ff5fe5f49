use Rattle.std.proofs.Common.{rules, ◌≡◌, ap, sym, subst, slice_index_or}
use Rattle.spec_tree.specs.Shapes.{IsState}
use Rattle.spec_tree.specs.Sorted.{IsTransition, field_sorts}
use Rattle.spec_tree.specs.View.{view_spec, view_transition}
use Rattle.spec_tree.proofs.Keeping.{transition_fits}
use Rattle.hk_symspec.proofs.Turning.{all_at, there_at}
use Rattle.hk_symspec_tests.proofs.plain.step_of.Goals as goal

pub returns : goal.returns
returns c =
    let s = view_spec c.args.spec.now in
    let x = c.index-as_slice-h.result in
    let is : x ≡ slice_index_or c.args.spec.now.transitions c.args.h x = search rules in
    let there = there_at view_transition c.args.spec.now.transitions c.args.h x c.requires.there is in
    let sorted = all_at (IsTransition s) view_transition c.args.spec.now.transitions c.args.h x c.requires.there is c.requires.spec.transitions in
    subst (IsState (field_sorts s)) (sym (ap (λ q. q.state) (c.in_ok-step.ensures (view_transition x) there)))
    (transition_fits s (view_transition x) sorted c.args.state.now c.args.args.now c.requires.state (c.requires.args (view_transition x) there))
