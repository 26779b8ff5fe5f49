-- A search in segments, each over the given clauses and some of the learned ones.
use Rattle.std.specs.Prelude.{◌≡◌, ℕ, ◌+◌, ◌-◌, ◌<◌, ◌≤◌, false, Option, Some, None, List, [], ◌++◌, length, take, slice_index_or, ℤ}
use Rattle.hk_cnf.specs.Clauses.{Clauses}
use Rattle.hk_lrat.specs.declared.log.LratRow.{LratRow}
use Rattle.hk_lrat.specs.declared.log.LratRow.TheVariants.{Add}
use Rattle.hk_lrat.specs.Log.{has_both, is_nil}
use Rattle.hk_cdcl.specs.declared.search.Search.{Search}
use Rattle.hk_cdcl.specs.declared.search.Found.{Found}
use Rattle.hk_cdcl.specs.declared.search.Found.TheVariants.{Sat as FoundSat, Unsat as FoundUnsat, Spent as FoundSpent}
use Rattle.hk_cdcl.specs.declared.segments.Answer.{Answer}
use Rattle.hk_cdcl.specs.declared.segments.Answer.TheVariants.{Sat, Unsat}
use Rattle.hk_cdcl.specs.Analysis.{Derives}
use Rattle.hk_cdcl.specs.Fresh.{additions}
use Rattle.hk_cdcl.specs.Names.{AreNames, front_of}
use Rattle.hk_cdcl.specs.Propagation.{Grown}
use Rattle.hk_cdcl.specs.Searching.{IsLogged}
use Rattle.hk_cdcl.specs.Solved.{Satisfies}
use Rattle.hk_cdcl.specs.States.{Grows, Closes}

-- the row adds the clause at this place, which its hints derive from the clauses before it
pub record IsDerived (clauses : List (List ℤ)) (place : ℕ) (row : LratRow) : Type 0 where
  pub hints : List ℕ
  pub is : row ≡ Add (place + 1) (slice_index_or clauses place []) hints
  pub derived : Derives (take place clauses) (slice_index_or clauses place []) hints
  pub not_both : has_both (slice_index_or clauses place []) ≡ false
  pub not_nil : is_nil (slice_index_or clauses place []) ≡ false

-- from this place on each clause has its row
pub record AreDerived (clauses : List (List ℤ)) (first : ℕ) (log : List LratRow) : Type 0 where
  pub count : first + length log ≡ length clauses
  pub each : (i : ℕ) (d : LratRow) → i < length log → IsDerived clauses (first + i) (slice_index_or log i d)

-- rows came at the end of the log, and their clauses at the end of the list
pub record Learns (old new : Search) : Type 0 where
  pub more : List LratRow
  pub log : new.log ≡ old.log ++ more
  pub vars : new.clauses.vars ≡ old.clauses.vars
  pub clauses : new.clauses.clauses ≡ old.clauses.clauses ++ additions more
  pub logged : (given : Clauses) → IsLogged given old.clauses old.log → IsLogged given new.clauses new.log

-- the segment is over a part of the whole list that begins with its front, and has no row yet
pub record IsBegun (given : ℕ) (whole active : Search) (names : List ℕ) : Type 0 where
  pub vars : active.clauses.vars ≡ whole.clauses.vars
  pub front : Grown (take given whole.clauses.clauses) active.clauses.clauses
  pub are_names : AreNames active.clauses.clauses whole.clauses.clauses names
  pub none : active.log ≡ []

-- the segment has a row for each of its clauses that has no name
pub record IsSearched (whole active : Search) (names : List ℕ) : Type 0 where
  pub vars : active.clauses.vars ≡ whole.clauses.vars
  pub some : 1 ≤ length names
  pub are_names : AreNames (take (length names - 1) active.clauses.clauses) whole.clauses.clauses names
  pub derived : AreDerived active.clauses.clauses (length names - 1) active.log

-- what the segment says of its own list
abbrev pub Says : Search → Found → Type 0
Says active (FoundSat a) = Satisfies active.clauses a
Says active (FoundUnsat row) = Closes active row
Says active FoundSpent = Unit {0}

-- what the answer says of the segment's list and of the whole one
abbrev pub Tells : Search → Search → Answer → Type 0
Tells active whole (Sat a) = Satisfies active.clauses a
Tells active whole (Unsat row) = Closes whole row

-- what an answer says of the whole list
abbrev pub Answers : ℕ → Search → Answer → Type 0
Answers given whole (Sat a) = Satisfies (front_of given whole.clauses) a
Answers given whole (Unsat row) = Closes whole row

-- the answer of a segment over the whole list
abbrev pub answer_of : Found → Option Answer
answer_of (FoundSat a) = Some (Sat a)
answer_of (FoundUnsat row) = Some (Unsat row)
answer_of FoundSpent = None

-- the answer of a call that a segment gave
abbrev pub found_of : Answer → Found
found_of (Sat a) = FoundSat a
found_of (Unsat row) = FoundUnsat row

-- what a call with this budget came to
abbrev pub Called : ℕ → ℕ → Search → Search → Found → Type 0
Called given budget old new (FoundSat a) = Satisfies (front_of given old.clauses) a
Called given budget old new (FoundUnsat row) = Closes new row
Called given budget old new FoundSpent = Grows old new × (length new.log ≡ length old.log + budget)
