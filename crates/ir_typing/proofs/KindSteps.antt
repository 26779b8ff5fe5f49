-- Numbers of types tell the kinds of registers.
use Rattle.std.proofs.Common.{◌≡◌, ℕ, Some, option_map, List, [], sym, ap, append-nil}
use Rattle.std.specs.Prelude.{slice_get}
use Rattle.ir_ast.specs.Plain.{Ty}
use Rattle.ir_type.specs.Whole.{Types, meant}
use Rattle.ir_whole.specs.Heads.{Grows}
use Rattle.ir_typing.specs.declared.held.Held.TheVariants.{Value, Slot, Pair}
use Rattle.ir_typing.specs.Registers.{value_of, slot_of, pair_of}
use Rattle.ir_typing.specs.Kinds.{IsKindOf}

module _ (types : Types) (numbers : List Ty) (t : Ty) (n : ℕ) (is : slice_get numbers n ≡ Some (meant types t)) where
  pub value_kind : IsKindOf types numbers (Some (value_of t)) (Some (Value n))
  value_kind = ap (λ o. Some (option_map value_of o)) is

  pub slot_kind : IsKindOf types numbers (Some (slot_of t)) (Some (Slot n))
  slot_kind = ap (λ o. Some (option_map slot_of o)) is

  pub pair_kind : IsKindOf types numbers (Some (pair_of t)) (Some (Pair n))
  pair_kind = ap (λ o. Some (option_map pair_of o)) is

pub grows_none : {A : Type 0} (xs : List A) → Grows xs xs
grows_none xs = record { more = []; is = sym (append-nil xs) }
