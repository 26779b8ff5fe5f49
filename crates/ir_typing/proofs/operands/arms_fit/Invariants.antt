use Rattle.std.proofs.Common.{◌≡◌, ℕ, List, drop}
use Rattle.std.specs.List.{list_all}
use Rattle.ir_ast.specs.View.{view_type, view_operand}
use Rattle.ir_ast.specs.declared.operand.Operand.{Operand}
use Rattle.ir_type.specs.Whole.{meant}
use Rattle.ir_typing.specs.Fits.{fits}
use Rattle.ir_typing.specs.Scoped.{types_in, scope_in, IsTyped}
use Rattle.ir_typing.proofs.operands.arms_fit.Given as goal

abbrev pub invariant-each : goal.invariant-each
invariant-each l = record {
  typed : IsTyped l.numbers l.scope;
  left : list_all (λ (a : Operand × List ℕ). fits (scope_in l.scope) (meant (types_in l.scope) (view_type l.over)) (view_operand a.0)) (drop l.arm-index l.items)
      ≡ list_all (λ (a : Operand × List ℕ). fits (scope_in l.scope) (meant (types_in l.scope) (view_type l.over)) (view_operand a.0)) l.arms.items.items;
}
