-- Numbers by their spelling.
use Rattle.std.specs.Prelude.{ℕ, ◌+◌, ◌-◌, ◌*◌, ◌^◌, Bool, true, false, not, ◌&&◌, nat_le, nat_lt, if◌then◌else◌, ℤ, pos, neg_ℤ, Option, Some, None, List, [], ◌∷◌, drop}
use Rattle.ir_lex.specs.Bytes.{begins_with}
use Rattle.ir_lex.specs.Drop.{are_digits}

-- the number of the digits, behind those that were read
abbrev pub digits_from : ℕ → List ℕ → ℕ
digits_from before [] = before
digits_from before (d ∷ ds) = digits_from (before * 10 + (d - 48)) ds

abbrev pub digits_value : List ℕ → ℕ
digits_value ds = digits_from 0 ds

abbrev pub is_nonempty : List ℕ → Bool
is_nonempty [] = false
is_nonempty (d ∷ ds) = true

abbrev pub are_some_digits : List ℕ → Bool
are_some_digits ds = is_nonempty ds && are_digits ds

-- digits below 2^64, leading zeros allowed
unfoldable pub count_of : List ℕ → Option ℕ
count_of text = if are_some_digits text && nat_lt (digits_value text) (2 ^ 64) then Some (digits_value text) else None

-- digits with a `-` before them or not, from -2^63 to 2^64 - 1
unfoldable pub number_of : List ℕ → Option ℤ
number_of text =
    if begins_with 45 text
    then (if are_some_digits (drop 1 text) && nat_le (digits_value (drop 1 text)) (2 ^ 63) then Some (neg_ℤ (pos (digits_value (drop 1 text)))) else None)
    else (if are_some_digits text && nat_lt (digits_value text) (2 ^ 64) then Some (pos (digits_value text)) else None)

-- `iN`, N from 1 to 64 without a leading zero
unfoldable pub width_of : List ℕ → Option ℕ
width_of text =
    if begins_with 105 text && are_some_digits (drop 1 text) && not (begins_with 48 (drop 1 text)) && nat_le (digits_value (drop 1 text)) 64
    then Some (digits_value (drop 1 text)) else None
