-- Words of literals as numbers, least bit first.
use Rattle.std.specs.Prelude.{◌≡◌, ◌<◌, ℕ, ◌+◌, ◌-◌, ◌*◌, ◌%◌, ◌^◌, if◌then◌else◌, nat_eq, Bool, true, false, not, ◌&&◌, ◌||◌, List, [], ◌∷◌, ℤ, pos, length, drop, slice_index_or}
use Rattle.hk_cnf.specs.Circuit.{Circuit, gate_value}

-- a truth value as a number
abbrev pub bit : Bool → ℕ
bit true = 1
bit false = 0

-- the number of a word, where the variables that no gate fixes have these values
abbrev pub gate_number : Circuit → List ℤ → (ℕ → Bool) → ℕ
gate_number c [] v = 0
gate_number c (l ∷ ls) v = bit (gate_value c l v) + 2 * gate_number c ls v

-- one of two truth values is true
abbrev pub differ : Bool → Bool → Bool
differ true b = not b
differ false b = b

-- two of three truth values are true
abbrev pub majority : Bool → Bool → Bool → Bool
majority a b c = (a && b) || (differ a b && c)

-- the literal at k says that the k highest bits of a word are false
abbrev pub TellClear : Circuit → List ℤ → List ℤ → Type 0
TellClear c flags ls = (k : ℕ) → k < length ls → (v : ℕ → Bool) → gate_value c (slice_index_or flags k (pos 1)) v ≡ nat_eq (gate_number c (drop (length ls - k) ls) v) 0

-- a number of width w, or its two's complement
abbrev pub negated_by : Bool → ℕ → ℕ → ℕ
negated_by sign w n = if sign then (2 ^ w - n) % 2 ^ w else n
