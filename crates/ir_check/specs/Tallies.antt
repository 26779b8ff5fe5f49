-- Places that are counted.
use Rattle.std.specs.Prelude.{◌≡◌, ℕ, ◌+◌, ◌==◌, [], slice_index_or, Bool, ◌&&◌, Option, Some, None, option_map, cond, List, count_by, position, nat_eq}
use Rattle.std.specs.List.{list_all}
use Rattle.std.specs.BTreeMap.{BTreeMap, get}
use Rattle.std.specs.Ordering.{nat_cmp}
use Rattle.ir_check.specs.declared.tally.Seen.{Seen}

-- how often a place stands in a list
abbrev pub times_at : List ℕ → ℕ → ℕ
times_at places q = count_by (nat_eq q) places

-- where it stands first, and how often
abbrev pub seen_in : List ℕ → ℕ → Option Seen
seen_in places q = option_map (λ k. record { first = k; count = times_at places q }) (position (nat_eq q) places)

pub record IsTallied (seen : BTreeMap ℕ Seen) (places : List ℕ) : Type 0 where
  pub each : (q : ℕ) → get nat_cmp seen q ≡ seen_in places q

-- this is kept of the place, and of every other what was
abbrev pub Puts : ℕ → Seen → BTreeMap ℕ Seen → BTreeMap ℕ Seen → Type 0
Puts place more old new = (q : ℕ) → get nat_cmp new q ≡ cond (nat_eq place q) (Some more) (get nat_cmp old q)

-- what is kept of a place that stands once more, behind so many others
abbrev pub IsOneMore : Option Seen → ℕ → Seen → Type 0
IsOneMore None length more = more ≡ record { first = length; count = 1 }
IsOneMore (Some s) length more = more ≡ record { first = s.first; count = s.count + 1 }

-- a place stands as often in the one as in the other
abbrev pub agrees_at : List ℕ → List ℕ → ℕ → Bool
agrees_at a b q = times_at a q == times_at b q

-- the places of a row
abbrev pub row_at : List (List ℕ) → ℕ → List ℕ
row_at rows t = slice_index_or rows t []

-- all places stand as often in the one as in the other
abbrev pub agree : List ℕ → List ℕ → Bool
agree a b = list_all (agrees_at a b) a && list_all (agrees_at a b) b
