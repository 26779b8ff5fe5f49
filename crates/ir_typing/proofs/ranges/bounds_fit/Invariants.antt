use Rattle.std.proofs.Common.{◌≡◌, ◌<◌, ◌&&◌, ℤ, length, map, drop}
use Rattle.std.specs.List.{list_all}
use Rattle.ir_ast.specs.Plain.{Ty}
use Rattle.ir_ast.specs.View.{view_type}
use Rattle.ir_ast.specs.declared.types.IrType.{IrType}
use Rattle.ir_type.specs.Whole.{meant, is_same}
use Rattle.ir_whole.specs.Heads.{type_at}
use Rattle.ir_whole.specs.Numbers.{types_of}
use Rattle.ir_typing.specs.Fits.{fits_number}
use Rattle.ir_typing.specs.Scoped.{types_in, IsTyped}
use Rattle.ir_typing.proofs.ranges.bounds_fit.Given as goal

abbrev pub invariant-each : goal.invariant-each
invariant-each l = record {
  typed : IsTyped l.numbers l.scope;
  within : l.over < length (types_of l.numbers);
  keeps : type_at (types_of l.numbers) l.over ≡ type_at (types_of l.initial.numbers) l.over;
  left : list_all (λ (n : Ty × ℤ). is_same (meant (types_in l.scope) n.0) (type_at (types_of l.initial.numbers) l.over) && fits_number (type_at (types_of l.initial.numbers) l.over) n.1) (map (λ (n : IrType × ℤ). (view_type n.0, n.1)) (drop l.bound-index l.bounds))
      ≡ list_all (λ (n : Ty × ℤ). is_same (meant (types_in l.scope) n.0) (type_at (types_of l.initial.numbers) l.over) && fits_number (type_at (types_of l.initial.numbers) l.over) n.1) (map (λ (n : IrType × ℤ). (view_type n.0, n.1)) l.bounds);
}
