use Rattle.std.proofs.Common.{◌≡◌, length}
use Rattle.ir_ast.specs.View.{view_indices, view_index_list}
use Rattle.ir_ast.specs.ProgramView.{view_entries, view_type_entry}
use Rattle.ir_whole.specs.Numbers.{IsFor}
use Rattle.ir_typing.specs.Same.{same_indices}
use Rattle.ir_typing.proofs.values.+values.Given as goal

abbrev pub decreases-same_operand : goal.decreases-same_operand
decreases-same_operand l = goal.size-same_operand l

abbrev pub decreases-same_address : goal.decreases-same_address
decreases-same_address l = goal.size-same_address l

abbrev pub decreases-same_indices : goal.decreases-same_indices
decreases-same_indices l = goal.size-same_indices l

-- what is left decides
abbrev pub invariant-same_indices-each : goal.invariant-same_indices-each
invariant-same_indices-each l = record {
  own : IsFor (view_entries view_type_entry l.types) l.numbers;
  long : length l.index-iterator.a.rest.now ≡ length l.index-iterator.b.rest.now;
  left : same_indices (view_entries view_type_entry l.types) (view_indices l.index-iterator.a.rest.now) (view_indices l.index-iterator.b.rest.now)
      ≡ same_indices (view_entries view_type_entry l.types) (view_index_list l.first) (view_index_list l.second);
}
