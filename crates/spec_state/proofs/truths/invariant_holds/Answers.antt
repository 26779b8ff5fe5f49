use Rattle.std.proofs.Common.{rules, ap, ◌∙◌, ◌≡◌, slice_index_or}
use Rattle.spec_tree.specs.Sorted.{IsNamed, over_kernel}
use Rattle.spec_tree.specs.View.{view_spec, view_named}
use Rattle.spec_tree.specs.Meaning as meaning
use Rattle.spec_state.proofs.Turns.{all_at, found_at}
use Rattle.spec_state.proofs.truths.invariant_holds.Goals as goal

pub holds_in_memory-requires-clause-named : goal.holds_in_memory-requires-clause-named
holds_in_memory-requires-clause-named c =
    let is : c.index-as_slice-i.result ≡ slice_index_or c.args.spec.now.invariants c.args.i c.index-as_slice-i.result = search rules in
    all_at (IsNamed (over_kernel (view_spec c.args.spec.now))) view_named c.args.spec.now.invariants c.args.i c.index-as_slice-i.result c.requires.there is c.requires.spec.invariants

pub returns : goal.returns
returns c = λ n found.
    let is : c.index-as_slice-i.result ≡ slice_index_or c.args.spec.now.invariants c.args.i c.index-as_slice-i.result = search rules in
    c.in_ok-holds_in_memory.ensures
    ∙ ap (λ x. meaning.invariant_holds (view_spec c.args.spec.now) x c.args.memory.now) (found_at view_named c.args.spec.now.invariants c.args.i c.index-as_slice-i.result n c.requires.there is found)
