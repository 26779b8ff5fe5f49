use Rattle.std.proofs.Common.{◌≡◌, ◌++◌, drop, map}
use Rattle.ir_ast.specs.ProgramView.{view_module, view_block}
use Rattle.ir_typing.specs.Scoped.{function_in}
use Rattle.ir_resolve.specs.Resolved.{block_of}
use Rattle.ir_measure.specs.Shaped.{IsShaped}
use Rattle.ir_resolve.proofs.program.blocks_of.Given as goal

abbrev pub invariant-each : goal.invariant-each
invariant-each l = record {
  shaped : IsShaped (view_module l.context.kernel.now).types l.shapes;
  left : l.blocks ++ map (block_of (view_module l.context.kernel.now) (function_in l.context.scope.now)) (map view_block (drop l.block-index l.items)) ≡ map (block_of (view_module l.context.kernel.now) (function_in l.context.scope.now)) (map view_block l.items);
}
