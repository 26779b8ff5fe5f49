use Rattle.ir_ast.specs.ProgramView.{view_module}
use Rattle.ir_whole.specs.Numbers.{IsFor}
use Rattle.ir_typing.specs.Scoped.{IsTyped}
use Rattle.ir_check.specs.Used.{function_in}
use Rattle.ir_check.specs.Least.{IsLeast}
use Rattle.ir_check.specs.Parts.{AmongFirst, BlockFaultsAt}
use Rattle.ir_check.proofs.body.blocks_fault.Given as goal

abbrev pub invariant-loop-at : goal.invariant-loop-at
invariant-loop-at l = record {
  typed : IsTyped l.numbers l.context.scope.now;
  values : IsFor (view_module l.context.kernel.now).types l.values;
  found : IsLeast (AmongFirst (BlockFaultsAt (view_module l.context.kernel.now) (function_in l.context.uses.now)) l.at) l.found;
}
