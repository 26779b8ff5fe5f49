-- The shape of a machine state.
use Rattle.std.specs.Prelude.{ℕ, List, map, length}

-- how many bytes each object has
abbrev pub sizes_of : List (List ℕ) → List ℕ
sizes_of memory = map (λ (o : List ℕ). length o) memory
