use Rattle.std.proofs.Common.{◌≡◌, [], map, drop}
use Rattle.spec_tree.specs.View.{view_field}
use Rattle.spec_lines.specs.Whole.{fields_from}
use Rattle.spec_lines.specs.MadeView.{view_values}
use Rattle.spec_lines.proofs.fields.fields_from.Given as goal

abbrev pub invariant-each : goal.invariant-each
invariant-each l = record {
  counted : l.place ≡ l.index;
  left : fields_from (map view_field l.fields.items) (drop l.place l.table) (drop l.place (view_values l.values.items)) ≡ fields_from [] l.table (view_values l.fn.values.items);
}
