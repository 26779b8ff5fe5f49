use Rattle.std.proofs.Common.{rules, subst, sym, ◌<◌, ◌≡◌, slice_index_or, length}
use Rattle.spec_tree.specs.Sorted.{IsNamed, over_state}
use Rattle.spec_tree.specs.View.{view_spec, view_named}
use Rattle.spec_state.proofs.Turns.{all_at}
use Rattle.spec_state.proofs.truths.properties_hold.Goals as goal

pub holds_in_state-requires-clause-named : goal.holds_in_state-requires-clause-named
holds_in_state-requires-clause-named c =
    let is : c.named-item.result ≡ slice_index_or c.args.spec.now.properties c.each.named-index c.named-item.result = search rules in
    let low : c.each.named-index < length c.args.spec.now.properties = search rules in
    all_at (IsNamed (over_state (view_spec c.args.spec.now))) view_named c.args.spec.now.properties c.each.named-index c.named-item.result low is c.requires.spec.properties
