-- Two sums taken apart by a factor.
use Rattle.std.specs.Prelude.{◌≡◌, ℕ, ◌+◌, ◌*◌, ◌<◌, nat_lt}
use Rattle.hk_range.specs.Linear.{left_of, right_of}
use Rattle.hk_range.specs.declared.sums.Sums.{Sums}
use Rattle.hk_range.specs.declared.split.Halves.{Halves}

-- the factor times the upper sums and the lower sums differ as the two sums do
abbrev pub IsSplit : Sums → Halves → Type 0
IsSplit s h = (f : ℕ → ℕ) → h.factor * left_of f h.upper + left_of f h.lower + right_of f s ≡ h.factor * right_of f h.upper + right_of f h.lower + left_of f s

-- the lower sums differ by less than the factor
abbrev pub IsNear : (ℕ → ℕ) → Halves → Type 0
IsNear f h = (left_of f h.lower < right_of f h.lower + h.factor) × (right_of f h.lower < left_of f h.lower + h.factor)

-- sums in the same order
abbrev pub IsOver : (ℕ → ℕ) → Sums → Sums → Type 0
IsOver f s u = nat_lt (left_of f u) (right_of f u) ≡ nat_lt (left_of f s) (right_of f s)
