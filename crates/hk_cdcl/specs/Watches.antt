-- Watches as contracts see them.
use Rattle.std.specs.Prelude.{◌≡◌, ℕ, ◌≢◌, ◌-◌, ◌≤◌, ◌^◌, Bool, false, nat_le, if◌then◌else◌, List, [], ◌∷◌, ◌++◌, map, length, ℤ, pos, slice_index_or, slice_set}
use Rattle.std.specs.List.{swap_remove}
use Rattle.hk_cnf.specs.Literal.{code_of}
use Rattle.hk_cdcl.specs.declared.lists.Slot.{Slot}
use Rattle.hk_cdcl.specs.Records.{lit_of, Pair, place_in}

-- a clause that is looked at when a literal becomes false, unless the literal that blocks is true
pub record Watch : Type 0 where
  pub blocker : ℤ
  pub clause : ℕ
  pub binary : Bool

-- for each literal's code its watches, and for each clause its watched literals, its literals and where its record begins
pub record Plain : Type 0 where
  pub lists : List (List Watch)
  pub pairs : List Pair
  pub texts : List (List ℤ)
  pub starts : List ℕ

-- the clause that a target names
abbrev pub clause_in : List ℕ → ℕ → ℕ
clause_in starts target = if nat_le (2 ^ 31) target then target - 2 ^ 31 else place_in starts target

-- what a watch says as it is kept
abbrev pub plain_of : List ℕ → Slot → Watch
plain_of starts slot = record { blocker = lit_of slot.blocker; clause = clause_in starts slot.target; binary = nat_le (2 ^ 31) slot.target }

abbrev pub plain_lists : List ℕ → List (List Slot) → List (List Watch)
plain_lists starts lists = map (map (plain_of starts)) lists

-- the watches of a literal
abbrev pub watches_of : List (List Watch) → ℤ → List Watch
watches_of lists l = slice_index_or lists (code_of l) []

-- the watch at a place
abbrev pub watch_at : List Watch → ℕ → Watch
watch_at ws n = slice_index_or ws n (record { blocker = pos 0; clause = 0; binary = false })

-- each list is as before; empty ones came
pub record IsSame (old new : List (List Watch)) : Type 0 where
  pub more : length old ≤ length new
  pub same : (l : ℤ) → watches_of new l ≡ watches_of old l

-- each list is empty now
pub record AreCleared (old new : List (List Watch)) : Type 0 where
  pub count : length new ≡ length old
  pub none : (n : ℕ) → slice_index_or new n [] ≡ []

-- the watch at a place of the list of l went, and this one came to the list of next
pub record IsMoved (lists new : List (List Watch)) (l : ℤ) (n : ℕ) (next : ℤ) (w : Watch) : Type 0 where
  pub from : watches_of new l ≡ swap_remove (watches_of lists l) n (watch_at (watches_of lists l) n)
  pub to : watches_of new next ≡ watches_of lists next ++ w ∷ []
  pub others : (m : ℤ) → m ≢ pos 0 → m ≢ l → m ≢ next → watches_of new m ≡ watches_of lists m

-- a watch of l came at the end of its list
abbrev pub with_watch : List (List Watch) → ℤ → Watch → List (List Watch)
with_watch lists l w = slice_set lists (code_of l) (watches_of lists l ++ w ∷ [])

-- both watches of a clause came
abbrev pub with_both : List (List Watch) → ℤ → ℤ → ℕ → Bool → List (List Watch)
with_both lists first second k binary =
    with_watch (with_watch lists first (record { blocker = second; clause = k; binary = binary })) second (record { blocker = first; clause = k; binary = binary })
