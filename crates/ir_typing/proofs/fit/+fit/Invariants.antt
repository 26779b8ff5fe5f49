use Rattle.std.proofs.Common.{◌≡◌, ◌<◌, ◌≤◌, ℕ, length, drop}
use Rattle.ir_ast.specs.View.{view_indices, view_index_list}
use Rattle.ir_whole.specs.Heads.{type_at}
use Rattle.ir_whole.specs.Numbers.{types_of}
use Rattle.ir_typing.specs.Fits.{indices_fit}
use Rattle.ir_typing.specs.Scoped.{scope_in, IsTyped}
use Rattle.ir_typing.proofs.fit.+fit.Given as goal

abbrev pub decreases-operand_fits : goal.decreases-operand_fits
decreases-operand_fits l = goal.size-operand_fits l

abbrev pub decreases-form_fits : goal.decreases-form_fits
decreases-form_fits l = goal.size-form_fits l

abbrev pub decreases-indices_fit : goal.decreases-indices_fit
decreases-indices_fit l = goal.size-indices_fit l

abbrev pub invariant-indices_fit-each : goal.invariant-indices_fit-each
invariant-indices_fit-each l = record {
  typed : IsTyped l.numbers l.scope;
  longer : length (types_of l.initial.numbers) ≤ length (types_of l.numbers);
  keeps : (k : ℕ) → k < length (types_of l.initial.numbers) → type_at (types_of l.numbers) k ≡ type_at (types_of l.initial.numbers) k;
  left : indices_fit (scope_in l.scope) (view_indices (drop l.index-index l.items)) ≡ indices_fit (scope_in l.scope) (view_index_list l.indices);
}
