-- Logs whose ids are raised, so that they stand behind more given clauses.
use Rattle.std.specs.Prelude.{◌≡◌, ℕ, ◌+◌, ◌<◌, ◌≤◌, ◌^◌, true, false, Bool, nat_lt, if◌then◌else◌, List, ◌++◌, map, length, ℤ}
use Rattle.std.specs.List.{All}
use Rattle.hk_cnf.specs.Clauses.{Clauses}
use Rattle.hk_lrat.specs.declared.log.LratRow.{LratRow}
use Rattle.hk_lrat.specs.declared.log.LratRow.TheVariants.{Add, Delete}

-- an id over `from` is raised by so much
abbrev pub raised_id : ℕ → ℕ → ℕ → ℕ
raised_id from by id = if nat_lt from id then id + by else id

-- the same of each id of a row
abbrev pub raised_row : ℕ → ℕ → LratRow → LratRow
raised_row from by (Add id c hints) = Add (raised_id from by id) c (map (raised_id from by) hints)
raised_row from by (Delete ids) = Delete (map (raised_id from by) ids)

-- and of each row of a log
abbrev pub raised : ℕ → ℕ → List LratRow → List LratRow
raised from by log = map (raised_row from by) log

-- the row adds a clause
abbrev pub is_addition : LratRow → Bool
is_addition (Add id c hints) = true
is_addition (Delete ids) = false

-- the id can be raised where it is over `from`
abbrev pub Fits : ℕ → ℕ → ℕ → Type 0
Fits from by id = from < id → id + by < 2 ^ 64

-- all ids of the row can be raised
abbrev pub RowFits : ℕ → ℕ → LratRow → Type 0
RowFits from by (Add id c hints) = Fits from by id × All (Fits from by) hints
RowFits from by (Delete ids) = All (Fits from by) ids

-- the second list begins with the first, has so many clauses more and not fewer variables
pub record IsLonger (list longer : Clauses) (by : ℕ) : Type 0 where
  pub more : List (List ℤ)
  pub is : longer.clauses ≡ list.clauses ++ more
  pub count : length more ≡ by
  pub vars : list.vars ≤ longer.vars
