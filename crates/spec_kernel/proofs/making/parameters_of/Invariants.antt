use Rattle.std.proofs.Common.{◌≡◌, ◌++◌, ℕ, List, map, drop}
use Rattle.ir_ast.specs.Plain.{Ty}
use Rattle.ir_ast.specs.View.{view_type}
use Rattle.ir_ast.specs.ProgramView.{view_entries, view_type_entry}
use Rattle.ir_type.specs.Whole.{meant}
use Rattle.ir_measure.specs.Shaped.{IsShaped}
use Rattle.spec_kernel.specs.View.{value_type}
use Rattle.spec_kernel.specs.Seen.{view_value}
use Rattle.spec_kernel.proofs.making.parameters_of.Given as goal

abbrev pub invariant-each : goal.invariant-each
invariant-each l = record {
  values : map view_value l.values.items ++ map (λ (p : Ty × List ℕ). value_type (meant (view_entries view_type_entry l.types) p.0)) (map (λ p. (view_type p.0, p.1)) (drop l.parameter-index l.parameters))
      ≡ map (λ (p : Ty × List ℕ). value_type (meant (view_entries view_type_entry l.types) p.0)) (map (λ p. (view_type p.0, p.1)) l.parameters);
  shaped : IsShaped (view_entries view_type_entry l.types) l.shapes;
}
