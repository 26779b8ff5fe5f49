use Rattle.std.proofs.Common.{◌≡◌, ◌++◌, drop}
use Rattle.ir_ast.specs.ProgramView.{view_module, view_typed}
use Rattle.ir_typing.specs.Scoped.{function_in}
use Rattle.ir_resolve.specs.Acts.{inputs_of}
use Rattle.ir_measure.specs.Shaped.{IsShaped}
use Rattle.ir_resolve.proofs.calls.inputs_of.Given as goal

abbrev pub invariant-each : goal.invariant-each
invariant-each l = record {
  shaped : IsShaped (view_module l.context.kernel.now).types l.shapes;
  left : l.inputs ++ inputs_of (view_module l.context.kernel.now) (function_in l.context.scope.now) (view_typed (drop l.argument-index l.arguments)) ≡ inputs_of (view_module l.context.kernel.now) (function_in l.context.scope.now) (view_typed l.arguments);
}
