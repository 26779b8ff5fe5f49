use Rattle.std.proofs.Common.{◌≡◌, ℕ, List, map, drop}
use Rattle.ir_ast.specs.Plain.{Ty}
use Rattle.std.specs.List.{list_all}
use Rattle.ir_ast.specs.View.{view_type}
use Rattle.ir_ast.specs.ProgramView.{view_entries, view_type_entry}
use Rattle.ir_ast.specs.declared.types.IrType.{IrType}
use Rattle.ir_type.specs.Whole.{meant, is_scalar}
use Rattle.ir_whole.specs.Numbers.{IsFor}
use Rattle.ir_typing.proofs.head.parameters_scalar.Given as goal

abbrev pub invariant-each : goal.invariant-each
invariant-each l = record {
  own : IsFor (view_entries view_type_entry l.types) l.numbers;
  left : list_all (λ (p : Ty × List ℕ). is_scalar (meant (view_entries view_type_entry l.types) p.0)) (map (λ (p : IrType × List ℕ). (view_type p.0, p.1)) (drop l.parameter-index l.parameters))
      ≡ list_all (λ (p : Ty × List ℕ). is_scalar (meant (view_entries view_type_entry l.types) p.0)) (map (λ (p : IrType × List ℕ). (view_type p.0, p.1)) l.parameters);
}
