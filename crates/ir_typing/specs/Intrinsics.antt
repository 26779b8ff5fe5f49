-- The listed intrinsics, each with its result and its parameters (LLVM Language Reference, "Intrinsic Functions").
use Rattle.std.specs.Prelude.{ℕ, Bool, true, false, Option, List, [], ◌∷◌, ◌++◌, map, flat_map, codes, ◌+◌, ◌/◌, ◌%◌, nat_lt, if◌then◌else◌}
use Rattle.std.specs.List.{range_with_len}
use Rattle.ir_ast.specs.Plain.{Ty, nothing, integer, structure, no_types, type_and}
use Rattle.ir_type.specs.Names.{entry_of}

pub record Signature : Type 0 where
  pub result : Ty
  pub parameters : List Ty

pub record Intrinsic : Type 0 where
  pub signature : Signature
  -- whether it gives a number and an overflow bit
  pub overflow : Bool

-- a number and whether it overflowed
abbrev pub number_and_bit : ℕ → Ty
number_and_bit w = structure (type_and (integer w) (type_and (integer 1) no_types))

abbrev pub with_overflow : ℕ → Intrinsic
with_overflow w = record { signature = record { result = number_and_bit w; parameters = integer w ∷ integer w ∷ [] }; overflow = true }

abbrev pub plain_pair : ℕ → Intrinsic
plain_pair w = record { signature = record { result = integer w; parameters = integer w ∷ integer w ∷ [] }; overflow = false }

abbrev pub with_flag : ℕ → Intrinsic
with_flag w = record { signature = record { result = integer w; parameters = integer w ∷ integer 1 ∷ [] }; overflow = false }

abbrev pub assuming : Intrinsic
assuming = record { signature = record { result = nothing; parameters = integer 1 ∷ [] }; overflow = false }

-- one row each: the name up to its width
abbrev pub overflow_rows : List (List ℕ × (ℕ → Intrinsic))
overflow_rows =
    (codes "llvm.uadd.with.overflow.i", with_overflow) ∷ (codes "llvm.sadd.with.overflow.i", with_overflow)
    ∷ (codes "llvm.usub.with.overflow.i", with_overflow) ∷ (codes "llvm.ssub.with.overflow.i", with_overflow)
    ∷ (codes "llvm.umul.with.overflow.i", with_overflow) ∷ (codes "llvm.smul.with.overflow.i", with_overflow) ∷ []

abbrev pub plain_rows : List (List ℕ × (ℕ → Intrinsic))
plain_rows =
    (codes "llvm.umin.i", plain_pair) ∷ (codes "llvm.umax.i", plain_pair)
    ∷ (codes "llvm.smin.i", plain_pair) ∷ (codes "llvm.smax.i", plain_pair)
    ∷ (codes "llvm.abs.i", with_flag) ∷ (codes "llvm.expect.i", plain_pair) ∷ []

-- a width of at most two digits, as it is written
abbrev pub digits : ℕ → List ℕ
digits w = if nat_lt w 10 then (48 + w) ∷ [] else (48 + w / 10) ∷ (48 + w % 10) ∷ []

-- a row at the widths from 1 to 64
unfoldable pub at_widths : List ℕ × (ℕ → Intrinsic) → List (List ℕ × Intrinsic)
at_widths row = map (λ w. (row.0 ++ digits w, row.1 w)) (range_with_len 1 64)

-- all of them: each row at its widths, and `llvm.assume`
abbrev pub intrinsics : List (List ℕ × Intrinsic)
intrinsics = (codes "llvm.assume", assuming) ∷ flat_map at_widths overflow_rows ++ flat_map at_widths plain_rows

-- the listed intrinsic of a name
unfoldable pub intrinsic_of : List ℕ → Option Intrinsic
intrinsic_of name = entry_of name intrinsics
