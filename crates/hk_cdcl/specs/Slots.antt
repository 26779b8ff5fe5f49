-- Watch lists as they are kept: a list of watches for each literal's code.
use Rattle.std.specs.Prelude.{◌≡◌, ℕ, ◌≤◌, List, [], length, slice_index_or}
use Rattle.hk_cdcl.specs.declared.lists.Slot.{Slot}

-- the watches of the literal with a code
abbrev pub slots_of : List (List Slot) → ℕ → List Slot
slots_of lists code = slice_index_or lists code []

-- the watch at a place
abbrev pub slot_at : List Slot → ℕ → Slot
slot_at slots n = slice_index_or slots n (record { blocker = 0; target = 0 })

-- each list is as before; empty ones came
pub record IsLonger (old new : List (List Slot)) : Type 0 where
  pub more : length old ≤ length new
  pub same : (n : ℕ) → slots_of new n ≡ slots_of old n

-- each list is empty now
pub record AreEmpty (old new : List (List Slot)) : Type 0 where
  pub count : length new ≡ length old
  pub none : (n : ℕ) → slots_of new n ≡ []
