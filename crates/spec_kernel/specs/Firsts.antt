-- Names with their first places in a list of names.
use Rattle.std.specs.Prelude.{◌≡◌, ℕ, List, [], ◌∷◌, ◌++◌, Option, map, is_some, bytes_eq, position, if◌then◌else◌}
use Rattle.std.specs.Map.{lookup}
use denote.Ref.{Bor}

-- the words behind references
abbrev pub texts : List (Bor (List ℕ)) → List (List ℕ)
texts words = map (λ w. w.now) words

-- the words behind references, each with its place
abbrev pub placed : List (Bor (List ℕ) × ℕ) → List (List ℕ × ℕ)
placed entries = map (λ e. (e.0.now, e.1)) entries

-- the place that stands with the name
abbrev pub place_at : List ℕ → List (List ℕ × ℕ) → Option ℕ
place_at n firsts = lookup (bytes_eq n) firsts

-- with a name and its place behind the others, unless the name is there
abbrev pub with_place : List (List ℕ × ℕ) → List ℕ → ℕ → List (List ℕ × ℕ)
with_place firsts n place = if is_some (place_at n firsts) then firsts else firsts ++ (n, place) ∷ []

-- each name stands with its first place among the names, and no other name stands there
abbrev pub AreFirsts : List (List ℕ × ℕ) → List (List ℕ) → Type 0
AreFirsts firsts names = (n : List ℕ) → place_at n firsts ≡ position (bytes_eq n) names
