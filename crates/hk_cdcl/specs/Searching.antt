-- What holds between two steps of the search.
use Rattle.std.specs.Prelude.{◌≡◌, ◌≢◌, ℕ, ◌+◌, ◌<◌, ◌≤◌, false, List, [], ◌∷◌, ◌++◌, length, take, ℤ, slice_index}
use Rattle.std.specs.List.{All, AllPairs}
use Rattle.hk_cnf.specs.Literal.{has}
use Rattle.hk_cnf.specs.Clauses.{Clauses}
use Rattle.hk_lrat.specs.declared.log.LratRow.{LratRow}
use Rattle.hk_lrat.specs.declared.log.LratRow.TheVariants.{Add, Delete}
use Rattle.hk_lrat.specs.Log.{State, start, after_row, is_empty_addition}
use Rattle.hk_lrat.specs.Refutes.{AreAccepted}
use Rattle.hk_cdcl.specs.Fresh.{AreQuiet, additions}
use Rattle.hk_cdcl.specs.Path.{Path, IsReason}

-- after the rows
abbrev pub after_rows : State → List LratRow → State
after_rows s [] = s
after_rows s (row ∷ rows) = after_rows (after_row s row) rows

-- the rows add clauses under the ids from n + 1 on, in order, each by hints before its id
abbrev pub AreOrdered : ℕ → List LratRow → Type 0
AreOrdered n [] = Unit {0}
AreOrdered n (Add id c hints ∷ rows) = (id ≡ n + 1) × All (λ h. h ≤ n) hints × AreOrdered (n + 1) rows
AreOrdered n (Delete ids ∷ rows) = ⊥

-- the clauses are the given ones and then those of the log, whose rows are accepted and not empty
pub record IsLogged (given clauses : Clauses) (log : List LratRow) : Type 0 where
  pub vars : clauses.vars ≡ given.vars
  pub grown : clauses.clauses ≡ given.clauses ++ additions log
  pub accepted : AreAccepted (start given) log
  pub ordered : AreOrdered (length given.clauses) log
  pub not_empty : All (λ row. is_empty_addition row ≡ false) log

-- each literal of the trail is a decision or has a reason; the levels begin at the decisions, and where a level begins
-- unit propagation had nothing left to do
pub record IsLeveled (clauses : Clauses) (p : Path) (levels : List ℕ) : Type 0 where
  pub vars : p.vars ≡ clauses.vars
  pub reasons : (n : ℕ) → n < length p.lits → All (λ level. level ≢ n) levels → IsReason clauses.clauses p.lits n (slice_index p.reasons n)
  pub quiet : All (λ level. AreQuiet (has (take level p.lits)) clauses.clauses) levels
  pub rising : AllPairs (λ d e. d < e) levels
  pub inside : All (λ level. level < length p.lits) levels
  pub decided : All (λ level. slice_index p.reasons level ≡ 0) levels

-- the levels that begin at `rest` or later are dropped; the first of them began at `target`
pub record IsJump (levels kept : List ℕ) (rest target : ℕ) : Type 0 where
  pub count : ℕ
  pub dropped : count < length levels
  pub is : kept ≡ take count levels
  pub target_is : target ≡ slice_index levels count
  pub bound : rest ≤ target
  pub before : All (λ level. level < rest) kept

-- a clause more, and its row
abbrev pub with_clause : Clauses → List ℤ → Clauses
with_clause clauses c = record clauses { clauses = clauses.clauses ++ c ∷ [] }

abbrev pub with_row : Clauses → List LratRow → List ℤ → List ℕ → List LratRow
with_row clauses log c hints = log ++ Add (length clauses.clauses + 1) c hints ∷ []
