-- What the checker's table of clauses means.
use Rattle.std.specs.Prelude.{ℕ, ◌<◌, ◌≤◌, Bool, false, ◌==◌, ◌&&◌, if◌then◌else◌, List, map, ℤ, slice_range}
use Rattle.std.specs.List.{AllPairs, filter, list_any}
use Rattle.hk_lrat.specs.declared.table.Entry.{Entry}
use Rattle.hk_lrat.specs.Log.{Live}

-- an entry's clause with its id
abbrev pub entry_of : List ℤ → Entry → ℕ × List ℤ
entry_of lits e = (e.id, slice_range lits e.start e.end)

-- the live clauses
abbrev pub live_of : List ℤ → List Entry → Live
live_of lits table = map (entry_of lits) (filter (λ e. e.live) table)

-- the ids rise
abbrev pub IsRising : List Entry → Type 0
IsRising table = AllPairs (λ d e. d.id < e.id) table

-- an entry's part lies within a row of this length
pub record IsEntry (n : ℕ) (e : Entry) : Type 0 where
  pub rising : e.start ≤ e.end
  pub inside : e.end ≤ n

-- a live entry has this id
abbrev pub is_live_at : List Entry → ℕ → Bool
is_live_at table id = list_any (λ e. e.live && (e.id == id)) table

-- the entry, dead where it has this id, or one of these
abbrev pub dead_at : ℕ → Entry → Entry
dead_at id e = if e.id == id then record e { live = false } else e

abbrev pub dead_in : List ℕ → Entry → Entry
dead_in ids e = if list_any (λ id. e.id == id) ids then record e { live = false } else e
