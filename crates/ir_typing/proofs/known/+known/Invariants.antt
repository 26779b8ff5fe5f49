use Rattle.std.proofs.Common.{◌≡◌, drop}
use Rattle.ir_ast.specs.View.{view_indices, view_index_list}
use Rattle.ir_ast.specs.ProgramView.{view_module}
use Rattle.ir_typing.specs.Knows.{knows_indices}
use Rattle.ir_typing.specs.Scoped.{function_in}
use Rattle.ir_typing.proofs.known.+known.Given as goal

abbrev pub decreases-operand_known : goal.decreases-operand_known
decreases-operand_known l = goal.size-operand_known l

abbrev pub decreases-gep_known : goal.decreases-gep_known
decreases-gep_known l = goal.size-gep_known l

abbrev pub decreases-indices_known : goal.decreases-indices_known
decreases-indices_known l = goal.size-indices_known l

abbrev pub invariant-indices_known-each : goal.invariant-indices_known-each
invariant-indices_known-each l =
    knows_indices (view_module l.module) (function_in l.scope) (view_indices (drop l.index-index l.items))
    ≡ knows_indices (view_module l.module) (function_in l.scope) (view_index_list l.indices)
