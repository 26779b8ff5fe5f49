use Rattle.std.proofs.Common.{sym, subst}
use Rattle.std.specs.Prelude.{All}
use Rattle.spec_tree.specs.Sorted.{IsWidth, field_sorts}
use Rattle.spec_tree.specs.Shapes.{IsState, AreNumbers}
use Rattle.spec_tree.specs.View.{view_spec}
use Rattle.spec_tree.proofs.Keeping.{step_has}
use Rattle.spec_state.proofs.Points.{step_fits, begun_with}
use Rattle.spec_state.proofs.steps.step_of.Goals as goal

pub go_through-requires-clause-stands : goal.go_through-requires-clause-stands
go_through-requires-clause-stands c =
    let s = view_spec c.args.spec.now in
    begun_with _ _ _ c.new-frame.ensures
    (step_has s c.requires.spec c.as_slice-2.result.now (subst (All IsWidth) (sym c.as_slice-2.ensures) c.requires.transition.widths))
    (step_fits s c.as_slice-2.result.now c.args.args.now c.as_slice.result.now c.in_ok-new.new c.new-memory.result
    (subst (IsState (field_sorts s)) (sym c.as_slice.ensures) c.requires.state)
    (subst (IsState (field_sorts s)) (sym c.in_ok-new.ensures) c.requires.state)
    (subst (λ w. AreNumbers w c.args.args.now) (sym c.as_slice-2.ensures) c.requires.args))
