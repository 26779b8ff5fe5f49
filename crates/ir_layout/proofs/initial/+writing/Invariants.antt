use Rattle.std.proofs.Common.{◌≡◌, drop}
use Rattle.ir_ast.specs.View.{view_inits, view_init_list}
use Rattle.ir_layout.specs.Facts.{look_in, no_fields, IsKept}
use Rattle.ir_layout.specs.Writing.{write_parts, write_fields}
use Rattle.ir_layout.proofs.initial.+writing.Given as goal

abbrev pub decreases-write : goal.decreases-write
decreases-write l = goal.size-write l

abbrev pub decreases-write_fields : goal.decreases-write_fields
decreases-write_fields l = goal.size-write_fields l

abbrev pub decreases-write_parts : goal.decreases-write_parts
decreases-write_parts l = goal.size-write_parts l

abbrev pub invariant-write_fields-fields : goal.invariant-write_fields-fields
invariant-write_fields-fields l = record {
  kept : IsKept l.all;
  left : write_fields (look_in l.types l.facts) l.limit l.size l.all (view_inits (drop l.part-index l.items)) l.out.items
      ≡ write_fields (look_in l.types l.facts) l.limit l.size no_fields (view_init_list l.parts) l.initial.out.items;
}

abbrev pub invariant-write_parts-each : goal.invariant-write_parts-each
invariant-write_parts-each l =
    write_parts (look_in l.types l.facts) l.limit (view_inits (drop l.part-index l.items)) l.out.items ≡ write_parts (look_in l.types l.facts) l.limit (view_init_list l.parts) l.initial.out.items
