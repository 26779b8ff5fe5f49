use Rattle.std.proofs.Common.{◌≡◌, drop, List, ℕ}
use Rattle.std.specs.List.{list_all}
use Rattle.ir_ast.specs.View.{view_operand}
use Rattle.ir_ast.specs.ProgramView.{view_module}
use Rattle.ir_ast.specs.declared.operand.Operand.{Operand}
use Rattle.ir_typing.specs.Knows.{knows}
use Rattle.ir_typing.specs.Scoped.{function_in}
use Rattle.ir_typing.proofs.known.arms_known.Given as goal

abbrev pub invariant-each : goal.invariant-each
invariant-each l =
    list_all (λ (a : Operand × List ℕ). knows (view_module l.module) (function_in l.scope) (view_operand a.0)) (drop l.arm-index l.items)
    ≡ list_all (λ (a : Operand × List ℕ). knows (view_module l.module) (function_in l.scope) (view_operand a.0)) l.arms.items.items
