use Rattle.std.proofs.Common.{◌≡◌, ◌++◌, drop}
use Rattle.ir_ast.specs.ProgramView.{view_module, view_arms}
use Rattle.ir_typing.specs.Scoped.{function_in}
use Rattle.ir_resolve.specs.Acts.{arms_of}
use Rattle.ir_measure.specs.Shaped.{IsShaped}
use Rattle.ir_resolve.proofs.acts.arms_of.Given as goal

abbrev pub invariant-each : goal.invariant-each
invariant-each l = record {
  shaped : IsShaped (view_module l.context.kernel.now).types l.shapes;
  left : l.arms ++ arms_of (view_module l.context.kernel.now) (function_in l.context.scope.now) l.width (view_arms (drop l.arm-index l.items)) ≡ arms_of (view_module l.context.kernel.now) (function_in l.context.scope.now) l.width (view_arms l.items);
}
