-- When a log refutes a clause list, in the words of the format.
use Rattle.std.specs.Prelude.{◌≡◌, ℕ, true, List, [], ◌∷◌, ◌++◌, Option, Some, None, Result, Ok, Err}
use Rattle.hk_cnf.specs.Clauses.{Clauses}
use Rattle.hk_lrat.specs.declared.log.LratRow.{LratRow}
use Rattle.hk_lrat.specs.declared.log.RefuteStop.{RefuteStop}
use Rattle.hk_lrat.specs.declared.log.RefuteStop.TheVariants.{Row, Memory}
use Rattle.hk_lrat.specs.declared.log.RowReason.{RowReason}
use Rattle.hk_lrat.specs.Log.{Fault, State, start, row_fault, after_row, is_empty_addition}

-- the rows are accepted one after another
abbrev pub AreAccepted : State → List LratRow → Type 0
AreAccepted s [] = Unit {0}
AreAccepted s (row ∷ rows) = (row_fault s row ≡ None) × AreAccepted (after_row s row) rows

-- a row with the empty clause is accepted, and all rows before it are accepted
pub record RefutesFrom (s : State) (log : List LratRow) : Type 0 where
  pub before : List LratRow
  pub row : LratRow
  pub after : List LratRow
  pub parts : log ≡ before ++ row ∷ after
  pub accepted : AreAccepted s (before ++ row ∷ [])
  pub empty : is_empty_addition row ≡ true

-- the log refutes the list
abbrev pub Refutes : Clauses → List LratRow → Type 0
Refutes list log = RefutesFrom (start list) log

-- where the stop names a row
abbrev pub OnRow : RefuteStop → Type 0 → Type 0
OnRow (Row n reason) P = P
OnRow Memory P = Unit {0}

-- the stop names this row with this reason against it, or is want of memory
abbrev pub StopsAt : RefuteStop → ℕ → Option RowReason → Type 0
StopsAt (Row n reason) number fault = (n ≡ number) × (fault ≡ Some reason)
StopsAt Memory number fault = Unit {0}

-- the answer is the first fault of the log, or Ok where there is none
abbrev pub Answers : Result (Unit {0}) RefuteStop → Option Fault → Type 0
Answers (Ok done) fault = fault ≡ None
Answers (Err (Row n reason)) fault = fault ≡ Some (n, reason)
Answers (Err Memory) fault = Unit {0}
