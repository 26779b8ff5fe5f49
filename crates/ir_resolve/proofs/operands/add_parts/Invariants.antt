use Rattle.std.proofs.Common.{◌≡◌, ◌<◌, ◌≤◌, ◌++◌, ℕ, Some, drop}
use Rattle.std.specs.Prelude.{option_map, IfSome}
use Rattle.ir_ast.specs.View.{view_indices}
use Rattle.ir_ast.specs.ProgramView.{view_module}
use Rattle.ir_typing.specs.Scoped.{function_in}
use Rattle.ir_resolve.specs.Operands.{part_moves}
use Rattle.ir_measure.specs.Shaped.{type_in, count_of, IsShaped}
use Rattle.ir_resolve.proofs.operands.add_parts.Given as goal

abbrev pub invariant-each : goal.invariant-each
invariant-each l = record {
  shaped : IsShaped (view_module l.context.kernel.now).types l.shapes;
  within : IfSome l.at (λ n. n < count_of l.shapes);
  longer : count_of l.initial.shapes ≤ count_of l.shapes;
  keeps : (k : ℕ) → k < count_of l.initial.shapes → type_in l.shapes k ≡ type_in l.initial.shapes k;
  left : l.moves ++ part_moves (view_module l.context.kernel.now) (function_in l.context.scope.now) l.flags (option_map (type_in l.shapes) l.at) (view_indices (drop l.index-index l.indices))
      ≡ l.initial.moves ++ part_moves (view_module l.context.kernel.now) (function_in l.context.scope.now) l.flags (Some (type_in l.initial.shapes l.first)) (view_indices l.indices);
}
