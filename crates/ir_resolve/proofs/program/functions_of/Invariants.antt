use Rattle.std.proofs.Common.{◌≡◌, ◌++◌, drop}
use Rattle.ir_ast.specs.ProgramView.{view_module, view_entries, view_type_entry}
use Rattle.ir_whole.specs.Numbers.{IsFor}
use Rattle.ir_resolve.specs.Resolved.{program_of}
use Rattle.ir_measure.specs.Shaped.{IsShaped}
use Rattle.ir_resolve.proofs.program.functions_of.Given as goal

abbrev pub invariant-loop-place : goal.invariant-loop-place
invariant-loop-place l = record {
  own : IsFor (view_entries view_type_entry l.kernel.types) l.numbers;
  shaped : IsShaped (view_module l.kernel).types l.shapes;
  left : l.codes ++ drop l.place (program_of (view_module l.kernel)).functions ≡ (program_of (view_module l.kernel)).functions;
}
