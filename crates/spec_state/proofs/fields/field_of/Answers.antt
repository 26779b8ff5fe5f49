use Rattle.std.proofs.Common.{rules, ap, ◌∙◌, ◌≡◌, slice_index_or}
use Rattle.spec_tree.specs.Sorted.{IsField}
use Rattle.spec_tree.specs.View.{view_spec, view_field}
use Rattle.spec_tree.specs.Meaning.{field_entries}
use Rattle.spec_state.proofs.Turns.{all_at, found_at}
use Rattle.spec_state.proofs.fields.field_of.Goals as goal

pub field_in-requires-clause-field : goal.field_in-requires-clause-field
field_in-requires-clause-field c =
    let is : c.index-as_slice-f.result ≡ slice_index_or c.args.spec.now.fields c.args.f c.index-as_slice-f.result = search rules in
    all_at (IsField (view_spec c.args.spec.now)) view_field c.args.spec.now.fields c.args.f c.index-as_slice-f.result c.requires.there is c.requires.spec.fields

pub returns : goal.returns
returns c = λ d found.
    let is : c.index-as_slice-f.result ≡ slice_index_or c.args.spec.now.fields c.args.f c.index-as_slice-f.result = search rules in
    c.in_ok-field_in.ensures
    ∙ ap (field_entries (view_spec c.args.spec.now) c.args.memory.now) (found_at view_field c.args.spec.now.fields c.args.f c.index-as_slice-f.result d c.requires.there is found)
