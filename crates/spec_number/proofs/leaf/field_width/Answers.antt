use Rattle.std.proofs.Common.{rules, ap, ◌∙◌, ◌<◌, length, slice_index_or, map}
use Rattle.spec_tree.specs.Sorted.{no_field, sort_of}
use Rattle.spec_tree.specs.View.{view_field}
use Rattle.spec_number.proofs.Fields.{sort_there}
use Rattle.spec_number.proofs.leaf.field_width.Goals as goal

pub returns-then-field-fields : goal.returns-then-field-fields
returns-then-field-fields c s =
    let fs = c.as_slice-fields.result.now in
    let low : c.args.field < length fs = search rules in
    ap (λ x. x.width) (sort_there fs c.args.field c.index-fields-field.result low) ∙ ap (λ l. (slice_index_or (map sort_of (map view_field l)) c.args.field no_field).width) c.as_slice-fields.ensures
