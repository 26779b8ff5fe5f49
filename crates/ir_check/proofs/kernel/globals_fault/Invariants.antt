use Rattle.ir_ast.specs.ProgramView.{view_module}
use Rattle.ir_whole.specs.Numbers.{IsFor}
use Rattle.ir_check.specs.Least.{IsLeast}
use Rattle.ir_check.specs.Parts.{AmongFirst, GlobalFaultsAt}
use Rattle.ir_check.proofs.kernel.globals_fault.Given as goal

abbrev pub invariant-loop-place : goal.invariant-loop-place
invariant-loop-place l = record {
  own : IsFor (view_module l.kernel).types l.numbers;
  found : IsLeast (AmongFirst (GlobalFaultsAt (view_module l.kernel)) l.place) l.found;
}
