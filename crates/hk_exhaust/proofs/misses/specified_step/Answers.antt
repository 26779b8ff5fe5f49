use Rattle.std.proofs.Common.{ap, ◌∙◌, subst, sym}
use Rattle.spec_tree.specs.Sorted.{field_sorts}
use Rattle.spec_tree.specs.Shapes.{IsState}
use Rattle.spec_tree.specs.View.{view_spec, view_transition}
use Rattle.spec_tree.specs.Meaning as meaning
use Rattle.spec_tree.proofs.Keeping.{abstraction_fits}
use Rattle.hk_exhaust.proofs.misses.specified_step.Goals as goal

pub transition-requires-clause-state : goal.transition-requires-clause-state
transition-requires-clause-state c =
    let s = view_spec c.args.handler.now.spec.now in
    subst (IsState (field_sorts s)) (sym c.in_ok-before.ensures) (abstraction_fits s c.requires.handler.sorted c.args.memory.now c.requires.memory)

pub returns : goal.returns
returns c =
    let s = view_spec c.args.handler.now.spec.now in
    let t = view_transition c.args.handler.now.transition.now in
    c.in_ok-step.ensures t c.requires.handler.there ∙ ap (λ x. meaning.transition s t x c.args.args.now) c.in_ok-before.ensures
