use Rattle.std.proofs.Common.{rules, ap, ◌∙◌, ◌<◌, ◌≡◌, length, slice_index_or, map}
use Rattle.spec_tree.specs.Sorted.{no_field, sort_of}
use Rattle.spec_tree.specs.View.{view_field, view_key}
use Rattle.spec_state.proofs.Points.{sort_there}
use Rattle.spec_state.proofs.lines.keys_of.Goals as goal

pub returns-then-field-fields : goal.returns-then-field-fields
returns-then-field-fields c =
    let fs = c.as_slice-fields.result.now in
    let low : c.args.field < length fs = search rules in
    let keys : map view_key c.as_slice.result.now ≡ map view_key c.index-fields-field.result.keys = search rules in
    keys ∙ ap (λ x. map view_key x.keys) c.index-fields-field.is
    ∙ ap (λ x. x.keys) (sort_there fs c.args.field c.index-fields-field.result low) ∙ ap (λ l. (slice_index_or (map sort_of (map view_field l)) c.args.field no_field).keys) c.as_slice-fields.ensures
