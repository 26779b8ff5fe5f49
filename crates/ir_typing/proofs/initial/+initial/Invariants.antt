use Rattle.std.proofs.Common.{◌≡◌, ◌+◌, ◌*◌, ◌<◌, ◌≤◌, ℕ, true, length, drop}
use Rattle.std.specs.Prelude.{IfSome}
use Rattle.ir_ast.specs.View.{view_type, view_inits, view_init_list}
use Rattle.ir_ast.specs.ProgramView.{view_entries, view_type_entry}
use Rattle.ir_type.specs.Whole.{meant, is_same}
use Rattle.ir_whole.specs.Heads.{type_at}
use Rattle.ir_whole.specs.Numbers.{types_of, IsFor}
use Rattle.ir_typing.specs.Fits.{elements_fit, fields_fit}
use Rattle.ir_typing.specs.Initial.{fields_in, behind}
use Rattle.ir_typing.proofs.initial.+initial.Given as goal

abbrev pub decreases-init_fits : goal.decreases-init_fits
decreases-init_fits l = 2 * goal.size-init_fits l

abbrev pub decreases-array_fits : goal.decreases-array_fits
decreases-array_fits l = 2 * goal.size-array_fits l + 1

abbrev pub decreases-elements_fit : goal.decreases-elements_fit
decreases-elements_fit l = 2 * goal.size-elements_fit l

abbrev pub decreases-struct_fits : goal.decreases-struct_fits
decreases-struct_fits l = 2 * goal.size-struct_fits l + 1

abbrev pub decreases-packed_fits : goal.decreases-packed_fits
decreases-packed_fits l = 2 * goal.size-packed_fits l + 1

abbrev pub decreases-fields_fit : goal.decreases-fields_fit
decreases-fields_fit l = 2 * goal.size-fields_fit l

abbrev pub invariant-elements_fit-each : goal.invariant-elements_fit-each
invariant-elements_fit-each l = record {
  own : IsFor (view_entries view_type_entry l.types) l.numbers;
  longer : length (types_of l.initial.numbers) ≤ length (types_of l.numbers);
  keeps : (k : ℕ) → k < length (types_of l.initial.numbers) → type_at (types_of l.numbers) k ≡ type_at (types_of l.initial.numbers) k;
  known : IfSome l.known (λ t. is_same (meant (view_entries view_type_entry l.types) (view_type t.now)) (type_at (types_of l.initial.numbers) l.element) ≡ true);
  rest : elements_fit (view_entries view_type_entry l.types) l.left (type_at (types_of l.initial.numbers) l.element) (view_inits (drop l.part-index l.items))
      ≡ elements_fit (view_entries view_type_entry l.types) l.count (type_at (types_of l.initial.numbers) l.element) (view_init_list l.parts);
}

abbrev pub invariant-fields_fit-each : goal.invariant-fields_fit-each
invariant-fields_fit-each l = record {
  own : IsFor (view_entries view_type_entry l.types) l.numbers;
  longer : length (types_of l.initial.numbers) ≤ length (types_of l.numbers);
  keeps : (k : ℕ) → k < length (types_of l.initial.numbers) → type_at (types_of l.numbers) k ≡ type_at (types_of l.initial.numbers) k;
  place : l.place ≡ l.part-index;
  rest : fields_fit (view_entries view_type_entry l.types) (behind l.place (fields_in (type_at (types_of l.initial.numbers) l.over))) (view_inits (drop l.part-index l.items))
      ≡ fields_fit (view_entries view_type_entry l.types) (fields_in (type_at (types_of l.initial.numbers) l.over)) (view_init_list l.parts);
}
