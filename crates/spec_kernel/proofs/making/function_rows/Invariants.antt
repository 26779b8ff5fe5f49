use Rattle.std.proofs.Common.{◌≡◌, ◌++◌, map, drop}
use Rattle.ir_ast.specs.ProgramView.{view_entries, view_type_entry, view_function}
use Rattle.ir_measure.specs.Shaped.{IsShaped}
use Rattle.spec_kernel.specs.View.{function_of}
use Rattle.spec_kernel.specs.Seen.{see_function, function_in}
use Rattle.spec_kernel.proofs.making.function_rows.Given as goal

abbrev pub invariant-loop-place : goal.invariant-loop-place
invariant-loop-place l = record {
  rows : map (λ r. function_in (see_function r)) l.rows.items ++ map (function_of (view_entries view_type_entry l.types)) (drop l.place (view_entries view_function l.functions))
      ≡ map (function_of (view_entries view_type_entry l.types)) (view_entries view_function l.functions);
  shaped : IsShaped (view_entries view_type_entry l.types) l.shapes;
}
