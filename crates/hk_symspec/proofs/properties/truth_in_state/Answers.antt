use Rattle.std.proofs.Common.{lit≤}
use Rattle.spec_tree.specs.Sorted.{over_state}
use Rattle.spec_tree.specs.View.{view_named, view_spec}
use Rattle.spec_tree.proofs.Keeping.{state_has}
use Rattle.hk_symspec.specs.States.{kernel_at, state_at}
use Rattle.hk_symspec.proofs.NameLaws.{begun_formula}
use Rattle.hk_symspec.proofs.StateReading.{property_reads, property_value}
use Rattle.hk_symspec.proofs.properties.truth_in_state.Goals as goal

pub body_term-requires-clause-formula : goal.body_term-requires-clause-formula
body_term-requires-clause-formula g c =
    begun_formula (over_state (view_spec c.args.spec.now)) 16777216 c.args.t.now 65536 (lit≤ tt)
    (state_has (view_spec c.args.spec.now) c.requires.spec).fields c.objects_are_small-objects.ensures

pub returns-clause-value : goal.returns-clause-value
returns-clause-value g c = λ v steady.
    property_value (view_spec c.args.spec.now) (view_named c.args.named.now) (state_at (view_spec c.args.spec.now) c.args.t.now c.args.state.now v) (kernel_at c.args.t.now c.args.state.now.memory v) _
    c.requires.named
    (c.in_ok-made.ensures.value v _ (property_reads (view_spec c.args.spec.now) c.args.t.now c.args.state.now 65536 v steady))
