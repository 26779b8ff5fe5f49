use Rattle.std.proofs.Common.{◌≡◌, ℕ, List, map, drop}
use Rattle.ir_ast.specs.View.{view_type}
use Rattle.ir_ast.specs.declared.types.IrType.{IrType}
use Rattle.ir_ast.specs.declared.operand.Operand.{Operand}
use Rattle.ir_typing.specs.Fits.{are_one}
use Rattle.ir_typing.specs.Scoped.{types_in, IsTyped}
use Rattle.ir_typing.proofs.calls.parameters_agree.Given as goal

abbrev pub invariant-loop-at : goal.invariant-loop-at
invariant-loop-at l = record {
  typed : IsTyped l.numbers l.scope;
  left : are_one (types_in l.scope) (map (λ (a : IrType × Operand). view_type a.0) (drop l.at l.arguments)) (map (λ (p : IrType × List ℕ). view_type p.0) (drop l.at l.parameters))
      ≡ are_one (types_in l.scope) (map (λ (a : IrType × Operand). view_type a.0) l.arguments) (map (λ (p : IrType × List ℕ). view_type p.0) l.parameters);
}
