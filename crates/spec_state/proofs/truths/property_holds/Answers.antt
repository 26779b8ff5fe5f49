use Rattle.std.proofs.Common.{rules, ap, ◌∙◌, ◌≡◌, slice_index_or}
use Rattle.spec_tree.specs.Sorted.{IsNamed, over_state}
use Rattle.spec_tree.specs.View.{view_spec, view_named}
use Rattle.spec_tree.specs.Meaning as meaning
use Rattle.spec_state.proofs.Turns.{all_at, found_at}
use Rattle.spec_state.proofs.truths.property_holds.Goals as goal

pub holds_in_state-requires-clause-named : goal.holds_in_state-requires-clause-named
holds_in_state-requires-clause-named c =
    let is : c.index-as_slice-p.result ≡ slice_index_or c.args.spec.now.properties c.args.p c.index-as_slice-p.result = search rules in
    all_at (IsNamed (over_state (view_spec c.args.spec.now))) view_named c.args.spec.now.properties c.args.p c.index-as_slice-p.result c.requires.there is c.requires.spec.properties

pub returns : goal.returns
returns c = λ n found.
    let is : c.index-as_slice-p.result ≡ slice_index_or c.args.spec.now.properties c.args.p c.index-as_slice-p.result = search rules in
    c.in_ok-holds_in_state.ensures
    ∙ ap (λ x. meaning.property_holds (view_spec c.args.spec.now) x c.args.state.now) (found_at view_named c.args.spec.now.properties c.args.p c.index-as_slice-p.result n c.requires.there is found)
