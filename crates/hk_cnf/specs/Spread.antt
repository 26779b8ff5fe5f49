-- The numbers by which gates are found: those of gates over close literals lie close together, and the others are spread evenly.
-- No answer depends on them.
use Rattle.std.specs.Prelude.{ℕ, ◌+◌, ◌*◌, ◌/◌, ◌%◌, ◌^◌, max, min, ℤ, unsigned_abs, List, [], ◌∷◌}
use Rattle.std.specs.Int.{w64, cast_unsigned, from_le_bytes}
use Rattle.hk_cnf.specs.declared.operation.Operation.{Operation}
use Rattle.hk_cnf.specs.declared.operation.Operation.TheVariants.{True, And}
use Rattle.hk_cnf.specs.declared.direct.Direct.{Direct}

-- the sum of two numbers, each times a large odd number
abbrev pub weighed : ℕ → ℕ → ℕ
weighed x y = ((x * 0x9E3779B97F4A7C15) % 2 ^ 64 + (y * 0xD6E8FEB86659FD93) % 2 ^ 64) % 2 ^ 64

-- eight bits of both literals, and below them 24 bits of both variables by sixteens
abbrev pub spread_and : ℤ → ℤ → ℕ
spread_and a b =
    weighed (cast_unsigned w64 a) (cast_unsigned w64 b) / 2 ^ 56 * 2 ^ 24
    + weighed (max (unsigned_abs a) (unsigned_abs b) / 16) (min (unsigned_abs a) (unsigned_abs b) / 16) / 2 ^ 40

abbrev pub spread : Operation → ℕ
spread True = 0
spread (And a b) = spread_and a b

-- the number that eight bytes make, the lowest first; others make 0
abbrev pub number_of : List ℕ → ℕ
number_of (a ∷ b ∷ c ∷ d ∷ e ∷ f ∷ g ∷ h ∷ []) = from_le_bytes w64 (a ∷ b ∷ c ∷ d ∷ e ∷ f ∷ g ∷ h ∷ [])
number_of bytes = 0

-- what was written last stands
abbrev pub direct_write : Direct → List ℕ → Direct
direct_write h bytes = record { number = number_of bytes }
