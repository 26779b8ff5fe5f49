-- A table is seen as the list of its entries in text order, each with its name; no name stands twice.
use Rattle.std.specs.Prelude.{◌≡◌, ℕ, Option, Some, cond, List, map, position, bytes_eq}
use Rattle.std.specs.List.{IsDistinct}
use Rattle.std.specs.BTreeMap.{BTreeMap, get}
use Rattle.std.specs.Cmp.Lexicographic.{slice_cmp}
use Rattle.std.specs.Ordering.{nat_cmp}

abbrev pub names_of : {E : Type 0} → List (List ℕ × E) → List (List ℕ)
names_of entries = map (λ entry. entry.0) entries

-- the place of the entry of a name
abbrev pub place_of : {E : Type 0} → List ℕ → List (List ℕ × E) → Option ℕ
place_of name entries = position (bytes_eq name) (names_of entries)

-- the map has each of the names with its place, and nothing else; no name stands twice
pub record IsIndex (places : BTreeMap (List ℕ) ℕ) (names : List (List ℕ)) : Type 0 where
  pub each : (q : List ℕ) → get (slice_cmp nat_cmp) places q ≡ position (bytes_eq q) names
  pub distinct : IsDistinct bytes_eq names

-- the name stands with the place, and every other name as it did
abbrev pub PutsName : List ℕ → ℕ → BTreeMap (List ℕ) ℕ → BTreeMap (List ℕ) ℕ → Type 0
PutsName name place old new = (q : List ℕ) → get (slice_cmp nat_cmp) new q ≡ cond (bytes_eq name q) (Some place) (get (slice_cmp nat_cmp) old q)
