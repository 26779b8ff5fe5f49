use Rattle.std.proofs.Common.{subst, sym}
use Rattle.spec_tree.specs.Shapes.{IsState}
use Rattle.spec_tree.specs.Sorted.{field_sorts}
use Rattle.spec_tree.specs.View.{view_spec}
use Rattle.spec_tree.proofs.Keeping.{abstraction_fits}
use Rattle.hk_symspec_tests.proofs.plain.state_of.Goals as goal

pub returns : goal.returns
returns c =
    let s = view_spec c.args.spec.now in
    subst (IsState (field_sorts s)) (sym c.in_ok-state.ensures) (abstraction_fits s c.requires.spec c.args.memory.now c.requires.memory)
