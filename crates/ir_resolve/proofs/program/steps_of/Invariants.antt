use Rattle.std.proofs.Common.{◌≡◌, ◌++◌, drop, map}
use Rattle.ir_ast.specs.ProgramView.{view_module, view_instr}
use Rattle.ir_typing.specs.Scoped.{function_in}
use Rattle.ir_resolve.specs.Resolved.{step_of}
use Rattle.ir_measure.specs.Shaped.{IsShaped}
use Rattle.ir_resolve.proofs.program.steps_of.Given as goal

abbrev pub invariant-each : goal.invariant-each
invariant-each l = record {
  shaped : IsShaped (view_module l.context.kernel.now).types l.shapes;
  left : l.steps ++ map (step_of (view_module l.context.kernel.now) (function_in l.context.scope.now)) (map view_instr (drop l.instr-index l.instrs)) ≡ map (step_of (view_module l.context.kernel.now) (function_in l.context.scope.now)) (map view_instr l.instrs);
}
