use Rattle.std.proofs.Common.{rules, ap, ◌∙◌, ◌≡◌}
use Rattle.std.specs.Prelude.{slice_index_or}
use Rattle.spec_tree.specs.Sorted.{IsNamed, over_state}
use Rattle.spec_tree.specs.Value.{bit}
use Rattle.spec_tree.specs.View.{view_spec, view_named}
use Rattle.spec_tree.specs.Meaning.{property_holds}
use Rattle.hk_symspec.specs.States.{state_at}
use Rattle.hk_symspec.proofs.Turning.{all_at, found_at}
use Rattle.hk_symspec.proofs.properties.property_term.Goals as goal

pub truth_in_state-requires-clause-named : goal.truth_in_state-requires-clause-named
truth_in_state-requires-clause-named g c =
    let is : c.index-as_slice-p.result ≡ slice_index_or c.args.spec.now.properties c.args.p c.index-as_slice-p.result = search rules in
    all_at (IsNamed (over_state (view_spec c.args.spec.now))) view_named c.args.spec.now.properties c.args.p c.index-as_slice-p.result c.requires.there is c.requires.spec.properties

pub returns-clause-value : goal.returns-clause-value
returns-clause-value g c = λ n found v steady.
    let is : c.index-as_slice-p.result ≡ slice_index_or c.args.spec.now.properties c.args.p c.index-as_slice-p.result = search rules in
    c.in_ok-truth_in_state.ensures.value v steady
    ∙ ap (λ x. bit (property_holds (view_spec c.args.spec.now) x (state_at (view_spec c.args.spec.now) c.args.t.now c.args.state.now v)))
    (found_at view_named c.args.spec.now.properties c.args.p c.index-as_slice-p.result n c.requires.there is found)
