use Rattle.std.proofs.Common.{◌≡◌, take}
use Rattle.std.specs.List.{list_all}
use Rattle.ir_ast.specs.ProgramView.{view_module, view_block}
use Rattle.ir_whole.specs.Numbers.{IsFor}
use Rattle.ir_typing.specs.Fits.{is_phi}
use Rattle.ir_typing.specs.Scoped.{IsTyped}
use Rattle.ir_check.specs.Used.{function_in}
use Rattle.ir_check.specs.Least.{IsLeast}
use Rattle.ir_check.specs.Parts.{AmongFirst, InstrFaultsAt}
use Rattle.ir_check.proofs.body.block_fault.Given as goal

abbrev pub invariant-loop-place : goal.invariant-loop-place
invariant-loop-place l = record {
  typed : IsTyped l.numbers l.context.scope.now;
  values : IsFor (view_module l.context.kernel.now).types l.values;
  found : IsLeast (AmongFirst (InstrFaultsAt (view_module l.context.kernel.now) (function_in l.context.uses.now) (view_block l.block)) l.place) l.found;
  phis : l.phis ≡ list_all (λ i. is_phi i.act) (take l.place (view_block l.block).instrs);
}
