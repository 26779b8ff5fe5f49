-- A list and a log whose variables are named by their ranks among those that occur, and what these stand for.
use Rattle.std.specs.Prelude.{ℕ, zero, suc, ◌+◌, ◌-◌, ◌^◌, ◌<◌, ◌≤◌, List, length, map, ℤ, pos, negsuc, slice_index_or}
use Rattle.std.specs.List.{AllPairs}
use Rattle.hk_lrat.specs.declared.log.LratRow.{LratRow}
use Rattle.hk_lrat.specs.declared.log.LratRow.TheVariants.{Add, Delete}

-- the places rise
abbrev pub AreRising : List ℕ → Type 0
AreRising places = AllPairs (λ a b. a < b) places

-- the first of so many places are below a number, and no other is
pub record AreSplit (places : List ℕ) (count : ℕ) (vars : ℕ) : Type 0 where
  pub few : count ≤ length places
  pub below : 0 < count → slice_index_or places (count - 1) 0 < vars
  pub above : count < length places → vars ≤ slice_index_or places count 0

-- the place of the variable of this rank; behind the table numbers that no variable has
abbrev pub place_at : List ℕ → ℕ → ℕ
place_at places k = slice_index_or places k (2 ^ 64 + k)

-- the literal of that variable
abbrev pub literal_at : List ℕ → ℤ → ℤ
literal_at places (pos zero) = pos zero
literal_at places (pos (suc n)) = pos (suc (place_at places n))
literal_at places (negsuc n) = negsuc (place_at places n)

-- the row with its literals renamed
abbrev pub renamed_row : (ℤ → ℤ) → LratRow → LratRow
renamed_row f (Add id c hints) = Add id (map f c) hints
renamed_row f (Delete ids) = Delete ids
