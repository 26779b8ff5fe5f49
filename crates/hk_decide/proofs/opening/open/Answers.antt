use Rattle.std.proofs.Common.{sym, subst}
use Rattle.spec_tree.specs.Sorted.{field_sorts}
use Rattle.spec_tree.specs.Shapes.{IsState}
use Rattle.spec_tree.specs.View.{view_spec}
use Rattle.spec_tree.proofs.Keeping.{abstraction_fits}
use Rattle.hk_decide.proofs.opening.open.Goals as goal

pub failing_property-requires-clause-state : goal.failing_property-requires-clause-state
failing_property-requires-clause-state c =
    let s = view_spec c.args.spec.now in
    subst (IsState (field_sorts s)) (sym c.in_ok-state.ensures) (abstraction_fits s c.requires.spec c.in_ok-memory.memory c.in_ok-memory.ensures.sized)
