-- What registers hold, by the numbers of their types.
use Rattle.std.specs.Prelude.{◌≡◌, ℕ, ◌<◌, ◌≤◌, ◌^◌, Option, Some, option_map, List, map, length, slice_get}
use Rattle.ir_ast.specs.Plain.{Ty}
use Rattle.ir_type.specs.Whole.{Types}
use Rattle.ir_typing.specs.declared.held.Held.{Held}
use Rattle.ir_typing.specs.declared.held.Held.TheVariants.{Value, Slot, Pair}
use Rattle.ir_typing.specs.Registers.{Kind, value_of, slot_of, pair_of}
use Rattle.ir_typing.specs.Fits.{whole_kind}
use Rattle.ir_typing.specs.Places.{AreFirsts}

-- the kind that numbers of types tell
abbrev pub kind_at : List Ty → Held → Option Kind
kind_at numbers (Value n) = option_map value_of (slice_get numbers n)
kind_at numbers (Slot n) = option_map slot_of (slice_get numbers n)
kind_at numbers (Pair n) = option_map pair_of (slice_get numbers n)

-- the numbers tell this kind, with its whole type
abbrev pub IsKindOf : Types → List Ty → Option Kind → Option Held → Type 0
IsKindOf types numbers kind held = option_map (kind_at numbers) held ≡ option_map (λ k. Some (whole_kind types k)) kind

-- these registers are kept: the place of each name, and the kind of each place
pub record AreKept (types : Types) (numbers : List Ty) (registers : List (List ℕ × Kind)) (places : List (List ℕ × ℕ)) (kinds : List Held) : Type 0 where
  pub firsts : AreFirsts places (map (λ r. r.0) registers)
  pub held : map (kind_at numbers) kinds ≡ map (λ r. Some (whole_kind types r.1)) registers
  pub few : length places ≤ length kinds
  pub small : length kinds < 2 ^ 32
