use Rattle.std.proofs.Common.{◌≡◌, drop}
use Rattle.std.specs.List.{list_all}
use Rattle.ir_ast.specs.View.{view_operand}
use Rattle.ir_ast.specs.ProgramView.{view_module}
use Rattle.ir_ast.specs.declared.types.IrType.{IrType}
use Rattle.ir_ast.specs.declared.operand.Operand.{Operand}
use Rattle.ir_typing.specs.Knows.{knows}
use Rattle.ir_typing.specs.Scoped.{function_in}
use Rattle.ir_typing.proofs.known.arguments_known.Given as goal

abbrev pub invariant-each : goal.invariant-each
invariant-each l =
    list_all (λ (a : IrType × Operand). knows (view_module l.module) (function_in l.scope) (view_operand a.1)) (drop l.argument-index l.items)
    ≡ list_all (λ (a : IrType × Operand). knows (view_module l.module) (function_in l.scope) (view_operand a.1)) l.arguments.items.items
