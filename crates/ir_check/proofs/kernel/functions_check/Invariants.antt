use Rattle.std.proofs.Common.{◌≡◌, length}
use Rattle.ir_ast.specs.ProgramView.{view_module}
use Rattle.ir_whole.specs.Numbers.{IsFor}
use Rattle.ir_check.specs.Least.{IsLeast}
use Rattle.ir_check.specs.Parts.{AmongFirst, FunctionFaultsAt}
use Rattle.ir_check.specs.Checked.{OrdersFirst}
use Rattle.ir_check.proofs.kernel.functions_check.Given as goal

abbrev pub invariant-loop-place : goal.invariant-loop-place
invariant-loop-place l = record {
  own : IsFor (view_module l.kernel).types l.numbers;
  values : IsFor (view_module l.kernel).types l.values;
  found : IsLeast (AmongFirst (FunctionFaultsAt (view_module l.kernel)) l.place) l.found;
  count : length l.orders.items ≡ l.place;
  orders : OrdersFirst (view_module l.kernel) l.place l.orders.items;
}
