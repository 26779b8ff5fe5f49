use Rattle.std.proofs.Common.{◌≡◌, length}
use Rattle.ir_ast.specs.View.{view_types, view_type_list}
use Rattle.ir_part.specs.Types.{same_types}
use Rattle.ir_part.proofs.same.+same.Given as goal

abbrev pub decreases-same_type : goal.decreases-same_type
decreases-same_type l = goal.size-same_type l

abbrev pub decreases-same_types : goal.decreases-same_types
decreases-same_types l = goal.size-same_types l

-- what is left decides
abbrev pub invariant-same_types-each : goal.invariant-same_types-each
invariant-same_types-each l = record {
  long : length l.part-iterator.a.rest.now ≡ length l.part-iterator.b.rest.now;
  left : same_types (view_types l.part-iterator.a.rest.now) (view_types l.part-iterator.b.rest.now) ≡ same_types (view_type_list l.first) (view_type_list l.second);
}
