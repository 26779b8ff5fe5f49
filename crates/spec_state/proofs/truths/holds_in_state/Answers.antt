use Rattle.std.proofs.Common.{sym, subst}
use Rattle.spec_tree.specs.Sorted.{field_sorts}
use Rattle.spec_tree.specs.Shapes.{IsState}
use Rattle.spec_tree.specs.View.{view_spec}
use Rattle.spec_tree.proofs.Keeping.{state_has}
use Rattle.spec_state.proofs.Points.{state_fits, begun_stands}
use Rattle.spec_state.proofs.truths.holds_in_state.Goals as goal

pub holds_in-requires-clause-stands : goal.holds_in-requires-clause-stands
holds_in-requires-clause-stands c =
    begun_stands _ _ c.new-frame.ensures (state_has (view_spec c.args.spec.now) c.requires.spec)
    (state_fits (view_spec c.args.spec.now) c.as_slice.result.now c.new-memory.result (subst (IsState (field_sorts (view_spec c.args.spec.now))) (sym c.as_slice.ensures) c.requires.state))
