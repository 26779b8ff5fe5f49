-- Finite maps to numbers as lists of entries: what has no entry is 0.
use Rattle.std.specs.Prelude.{ℕ, ◌&&◌, nat_eq, List, unwrap_or}
use Rattle.std.specs.Map.{lookup}
use Rattle.hk_term.specs.declared.valuation.Place.{Place}

-- the number of a key
abbrev pub number_at : List (ℕ × ℕ) → ℕ → ℕ
number_at entries id = unwrap_or (lookup (nat_eq id) entries) 0

-- the number at a place of an array
abbrev pub entry_at : List (Place × ℕ) → ℕ → ℕ → ℕ
entry_at entries array index = unwrap_or (lookup (λ p. nat_eq array p.array && nat_eq index p.index) entries) 0
