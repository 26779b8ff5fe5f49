use Rattle.std.proofs.Common.{◌≡◌, drop}
use Rattle.ir_ast.specs.View.{view_types, view_type_list}
use Rattle.ir_layout.specs.Facts.{look_in, fields_by, packed_by, no_fields, IsKept}
use Rattle.ir_layout.proofs.types.+facts.Given as goal

abbrev pub decreases-fact_in : goal.decreases-fact_in
decreases-fact_in g l = goal.size-fact_in g l

abbrev pub decreases-fields_in : goal.decreases-fields_in
decreases-fields_in g l = goal.size-fields_in g l

abbrev pub decreases-packed_in : goal.decreases-packed_in
decreases-packed_in g l = goal.size-packed_in g l

abbrev pub invariant-fields_in-each : goal.invariant-fields_in-each
invariant-fields_in-each g l = record {
  kept : IsKept l.all;
  left : fields_by (look_in l.types l.facts) l.all (view_types (drop l.part-index l.items)) ≡ fields_by (look_in l.types l.facts) no_fields (view_type_list l.parts);
}

abbrev pub invariant-packed_in-each : goal.invariant-packed_in-each
invariant-packed_in-each g l = record {
  kept : IsKept l.all;
  left : packed_by (look_in l.types l.facts) l.all (view_types (drop l.part-index l.items)) ≡ packed_by (look_in l.types l.facts) no_fields (view_type_list l.parts);
}
