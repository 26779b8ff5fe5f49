use Rattle.std.proofs.Common.{◌≡◌, map, drop}
use Rattle.ir_ast.specs.View.{view_type}
use Rattle.ir_ast.specs.ProgramView.{view_entries, view_type_entry}
use Rattle.ir_whole.specs.Numbers.{IsFor}
use Rattle.ir_kernel.specs.Passing.{first_untaken}
use Rattle.ir_kernel.proofs.passing.first_untaken.Given as goal

abbrev pub invariant-loop-place : goal.invariant-loop-place
invariant-loop-place l = record {
  rest : first_untaken (view_entries view_type_entry l.types) l.place (drop l.place (map (λ p. (view_type p.0, p.1)) l.parameters)) (drop l.place l.arguments)
      ≡ first_untaken (view_entries view_type_entry l.types) 0 (map (λ p. (view_type p.0, p.1)) l.parameters) l.arguments;
  own : IsFor (view_entries view_type_entry l.types) l.numbers;
}
