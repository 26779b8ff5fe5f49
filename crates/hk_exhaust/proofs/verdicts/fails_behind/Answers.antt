use Rattle.std.proofs.Common.{ap, ◌∙◌, subst, sym, arith}
use Rattle.std.proofs.lemmas.List.{length-map}
use Rattle.spec_tree.specs.Sorted.{IsTransition, field_sorts}
use Rattle.spec_tree.specs.Shapes.{IsState}
use Rattle.spec_tree.specs.View.{view_spec, view_named, view_transition}
use Rattle.spec_tree.specs.Meaning as meaning
use Rattle.spec_tree.proofs.Keeping.{transition_fits}
use Rattle.hk_exhaust.proofs.Telling.{all_there, is_false}
use Rattle.hk_exhaust.proofs.verdicts.fails_behind.Goals as goal

pub property_holds-requires-clause-state : goal.property_holds-requires-clause-state
property_holds-requires-clause-state c =
    let s = view_spec c.args.handler.now.spec.now in
    let t = view_transition c.args.handler.now.transition.now in
    let sorted = all_there (IsTransition s) s.transitions c.args.handler.now.place t c.requires.handler.there c.requires.handler.sorted.transitions in
    subst (IsState (field_sorts s)) (sym (ap (λ x. x.state) (c.in_ok-step.ensures t c.requires.handler.there)))
    (transition_fits s t sorted c.args.state.now c.args.args.now c.requires.state c.requires.args)

pub returns : goal.returns
returns c =
    let s = view_spec c.args.handler.now.spec.now in
    let t = view_transition c.args.handler.now.transition.now in
    let after = (meaning.transition s t c.args.state.now c.args.args.now).state in
    is_false (λ n. meaning.property_holds s n after) s.properties c.args.p c.in_ok-holds.holds
    (omega (arith, c.requires.there, length-map c.args.handler.now.spec.now.properties view_named))
    (λ n g. c.in_ok-holds.ensures n g ∙ ap (λ x. meaning.property_holds s n x.state) (c.in_ok-step.ensures t c.requires.handler.there))
