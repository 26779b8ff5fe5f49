use Rattle.std.proofs.Common.{◌≡◌, ◌++◌, map, drop}
use Rattle.std.specs.List.{All}
use Rattle.ir_ast.specs.ProgramView.{view_module}
use Rattle.ir_measure.specs.Shaped.{IsShaped}
use Rattle.spec_kernel.specs.View.{global_of}
use Rattle.spec_kernel.specs.Seen.{see_global, global_in, IsShape}
use Rattle.spec_kernel.proofs.making.global_rows.Given as goal

abbrev pub invariant-loop-place : goal.invariant-loop-place
invariant-loop-place l = record {
  rows : map (λ r. global_in l.shapes (see_global r)) l.rows.items ++ map (global_of (view_module l.kernel).types) (drop l.place (view_module l.kernel).globals)
      ≡ map (global_of (view_module l.kernel).types) (view_module l.kernel).globals;
  known : All (λ r. IsShape l.shapes r.shape) l.rows.items;
  shaped : IsShaped (view_module l.kernel).types l.shapes;
}
