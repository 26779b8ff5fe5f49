use Rattle.std.proofs.Common.{◌≡◌, drop}
use Rattle.std.specs.Prelude.{slice_index}
use Rattle.ir_ast.specs.View.{view_types, view_type_list}
use Rattle.ir_layout.specs.Facts.{look_in, no_fields, IsKept}
use Rattle.ir_layout.specs.Offsets.{packed_offsets_by}
use Rattle.ir_layout.proofs.fields.packed_offset_in.Given as goal

abbrev pub invariant-loop-part : goal.invariant-loop-part
invariant-loop-part g l = record {
  kept : IsKept l.all;
  rest : slice_index (packed_offsets_by (look_in l.types l.facts) l.all (view_types (drop l.part-index l.items))) l.left
      ≡ slice_index (packed_offsets_by (look_in l.types l.facts) no_fields (view_type_list l.parts)) l.field;
}
