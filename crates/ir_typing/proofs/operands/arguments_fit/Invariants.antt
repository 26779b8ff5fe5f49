use Rattle.std.proofs.Common.{◌≡◌, drop}
use Rattle.std.specs.List.{list_all}
use Rattle.ir_ast.specs.View.{view_type, view_operand}
use Rattle.ir_ast.specs.declared.types.IrType.{IrType}
use Rattle.ir_ast.specs.declared.operand.Operand.{Operand}
use Rattle.ir_type.specs.Whole.{meant}
use Rattle.ir_typing.specs.Fits.{fits}
use Rattle.ir_typing.specs.Scoped.{types_in, scope_in, IsTyped}
use Rattle.ir_typing.proofs.operands.arguments_fit.Given as goal

abbrev pub invariant-each : goal.invariant-each
invariant-each l = record {
  typed : IsTyped l.numbers l.scope;
  left : list_all (λ (a : IrType × Operand). fits (scope_in l.scope) (meant (types_in l.scope) (view_type a.0)) (view_operand a.1)) (drop l.argument-index l.items)
      ≡ list_all (λ (a : IrType × Operand). fits (scope_in l.scope) (meant (types_in l.scope) (view_type a.0)) (view_operand a.1)) l.arguments.items.items;
}
