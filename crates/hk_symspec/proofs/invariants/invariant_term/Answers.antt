use Rattle.std.proofs.Common.{rules, ap, ◌∙◌, ◌≡◌}
use Rattle.std.specs.Prelude.{slice_index_or}
use Rattle.hk_symmem.specs.Guarded.{memory_at}
use Rattle.spec_tree.specs.Sorted.{IsNamed, over_kernel}
use Rattle.spec_tree.specs.Value.{bit}
use Rattle.spec_tree.specs.View.{view_spec, view_named}
use Rattle.spec_tree.specs.Meaning.{invariant_holds}
use Rattle.hk_symspec.proofs.Turning.{all_at, found_at}
use Rattle.hk_symspec.proofs.invariants.invariant_term.Goals as goal

pub truth_in_memory-requires-clause-named : goal.truth_in_memory-requires-clause-named
truth_in_memory-requires-clause-named g c =
    let is : c.index-as_slice-i.result ≡ slice_index_or c.args.spec.now.invariants c.args.i c.index-as_slice-i.result = search rules in
    all_at (IsNamed (over_kernel (view_spec c.args.spec.now))) view_named c.args.spec.now.invariants c.args.i c.index-as_slice-i.result c.requires.there is c.requires.spec.invariants

pub returns-clause-value : goal.returns-clause-value
returns-clause-value g c = λ n found v steady.
    let is : c.index-as_slice-i.result ≡ slice_index_or c.args.spec.now.invariants c.args.i c.index-as_slice-i.result = search rules in
    c.in_ok-truth_in_memory.ensures.value v steady
    ∙ ap (λ x. bit (invariant_holds (view_spec c.args.spec.now) x (memory_at c.args.t.now c.args.memory.now v)))
    (found_at view_named c.args.spec.now.invariants c.args.i c.index-as_slice-i.result n c.requires.there is found)
