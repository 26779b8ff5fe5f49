use Rattle.std.proofs.Common.{◌≡◌, ◌≢◌, ap, ◌∙◌, subst, arith, slice_index_or, []}
use Rattle.std.proofs.lemmas.List.{length-map}
use Rattle.spec_tree.specs.View.{view_spec, view_field, view_transition}
use Rattle.spec_tree.specs.Meaning.{abstraction}
use Rattle.hk_case.specs.Violation.{specified}
use Rattle.hk_exhaust.specs.Answers.{Tells}
use Rattle.hk_exhaust.proofs.Facts.{entries_there}
use Rattle.hk_exhaust.proofs.misses.differs_in.Goals as goal

pub returns : goal.returns
returns c =
    let s = view_spec c.args.handler.now.spec.now in
    let t = view_transition c.args.handler.now.transition.now in
    let found : c.as_slice.result.now ≡ slice_index_or (abstraction s c.args.after.now) c.args.field [] =
    c.as_slice.ensures ∙ entries_there s c.args.after.now c.args.field c.in_ok-found.found (omega (arith, c.requires.there, length-map c.args.handler.now.spec.now.fields view_field)) c.in_ok-found.ensures in
    let wanted : c.entries_at.result.now ≡ slice_index_or (specified s t c.args.memory.now c.args.args.now).state c.args.field [] =
    c.entries_at.ensures ∙ ap (λ x. slice_index_or x.state c.args.field []) c.in_ok-step.ensures in
    subst (λ x. Tells c.differ.result (x ≢ slice_index_or (specified s t c.args.memory.now c.args.args.now).state c.args.field [])) found
    (subst (λ y. Tells c.differ.result (c.as_slice.result.now ≢ y)) wanted c.differ.ensures)
