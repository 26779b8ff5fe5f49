use Rattle.std.proofs.Common.{◌≡◌, length}
use Rattle.ir_ast.specs.View.{view_types, view_type_list}
use Rattle.ir_typing.specs.Same.{same_types}
use Rattle.ir_typing.proofs.same.+same.Given as goal

abbrev pub decreases-same_type : goal.decreases-same_type
decreases-same_type l = goal.size-same_type l

abbrev pub decreases-same_lists : goal.decreases-same_lists
decreases-same_lists l = goal.size-same_lists l

-- what is left decides
abbrev pub invariant-same_lists-each : goal.invariant-same_lists-each
invariant-same_lists-each l = record {
  long : length l.part-iterator.a.rest.now ≡ length l.part-iterator.b.rest.now;
  left : same_types (view_types l.part-iterator.a.rest.now) (view_types l.part-iterator.b.rest.now) ≡ same_types (view_type_list l.first) (view_type_list l.second);
}
