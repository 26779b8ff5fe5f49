use Rattle.std.proofs.Common.{◌≡◌, ◌++◌, drop}
use Rattle.ir_ast.specs.View.{view_types, view_type_list}
use Rattle.ir_layout.specs.Facts.{look_in, no_fields, IsKept}
use Rattle.ir_layout.specs.Offsets.{packed_offsets_by}
use Rattle.ir_layout.proofs.fields.all_packed_offsets.Given as goal

abbrev pub invariant-loop-part : goal.invariant-loop-part
invariant-loop-part l = record {
  kept : IsKept l.all;
  rest : l.offsets.items ++ packed_offsets_by (look_in l.types l.facts) l.all (view_types (drop l.part-index l.items)) ≡ packed_offsets_by (look_in l.types l.facts) no_fields (view_type_list l.parts);
}
