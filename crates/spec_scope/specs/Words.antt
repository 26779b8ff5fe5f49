-- Words behind references.
use Rattle.std.specs.Prelude.{ℕ, Option, List, map, bytes_eq, position}
use denote.Ref.{Bor}

abbrev pub words : List (Bor (List ℕ)) → List (List ℕ)
words ws = map (λ w. w.now) ws

-- each with what stands beside it
abbrev pub pairs : {V : Type 0} → List (Bor (List ℕ) × V) → List (List ℕ × V)
pairs es = map (λ e. (e.0.now, e.1)) es

-- where a word stands among the words that have something beside them
abbrev pub place_by : {V : Type 0} → List ℕ → List (Bor (List ℕ) × V) → Option ℕ
place_by x es = position (λ (k : Bor (List ℕ)). bytes_eq x k.now) (map (λ e. e.0) es)
