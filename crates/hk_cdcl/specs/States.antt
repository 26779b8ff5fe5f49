-- Steps of the search.
use Rattle.std.specs.Prelude.{◌≡◌, ℕ, ◌+◌, ◌≤◌, [], ◌∷◌, ◌++◌, List, length, take, ℤ}
use Rattle.hk_cnf.specs.Clauses.{Clauses}
use Rattle.hk_lrat.specs.declared.log.LratRow.{LratRow}
use Rattle.hk_lrat.specs.declared.log.LratRow.TheVariants.{Add}
use Rattle.hk_cdcl.specs.declared.search.Search.{Search}
use Rattle.hk_cdcl.specs.declared.search.Step.{Step}
use Rattle.hk_cdcl.specs.declared.search.Step.TheVariants.{Decided, Back, Ended}
use Rattle.hk_cdcl.specs.declared.search.Found.{Found}
use Rattle.hk_cdcl.specs.declared.search.Found.TheVariants.{Sat, Unsat, Spent}
use Rattle.hk_cdcl.specs.Analysis.{Derives}
use Rattle.hk_cdcl.specs.Fresh.{AreFresh, additions}
use Rattle.hk_cdcl.specs.Solved.{Satisfies}
use Rattle.hk_cdcl.specs.Searching.{IsLogged, IsLeveled}

-- the trail and its levels, and a mark for each variable
abbrev pub Leveled : Search → Type 0
Leveled s = IsLeveled s.clauses s.trail s.levels.items × (length s.seen ≡ s.trail.vars)

-- rows came at the end of the log, and their clauses, which are fresh, at the end of the list
pub record Grows (old new : Search) : Type 0 where
  pub more : List LratRow
  pub log : new.log ≡ old.log ++ more
  pub clauses : new.clauses.clauses ≡ old.clauses.clauses ++ additions more
  pub fresh : AreFresh old.clauses.clauses (additions more)
  pub logged : (given : Clauses) → IsLogged given old.clauses old.log → IsLogged given new.clauses new.log

-- a literal more was made true as a decision
pub record IsDecided (old new : Search) : Type 0 where
  pub leveled : Leveled new
  pub clauses : new.clauses ≡ old.clauses
  pub left : new.left ≡ old.left
  pub vars : new.trail.vars ≡ old.trail.vars
  pub literal : ℤ
  pub lits : new.trail.lits ≡ old.trail.lits ++ literal ∷ []
  pub count : length new.trail.lits ≤ new.trail.vars

-- a clause was learned, and the trail cut to this length
pub record IsBack (old new : Search) (n : ℕ) : Type 0 where
  pub leveled : Leveled new
  pub left : new.left + 1 ≡ old.left
  pub vars : new.trail.vars ≡ old.trail.vars
  pub lits : new.trail.lits ≡ take n old.trail.lits

-- the trail was cut to this length, or is as before
pub record IsRestarted (old new : Search) (n : ℕ) : Type 0 where
  pub leveled : Leveled new
  pub clauses : new.clauses ≡ old.clauses
  pub log : new.log ≡ old.log
  pub left : new.left ≡ old.left
  pub vars : new.trail.vars ≡ old.trail.vars
  pub lits : new.trail.lits ≡ take n old.trail.lits
  pub inside : n ≤ length old.trail.lits

-- the row adds the empty clause, which its hints derive
pub record Closes (s : Search) (row : LratRow) : Type 0 where
  pub hints : List ℕ
  pub is : row ≡ Add (length s.clauses.clauses + 1) [] hints
  pub derived : Derives s.clauses.clauses [] hints

-- what the search came to
abbrev pub Finds : Search → Found → Type 0
Finds s (Sat a) = Satisfies s.clauses a
Finds s (Unsat row) = Closes s row
Finds s Spent = s.left ≡ 0

-- the budget that is left and the rows are together as many as before
abbrev pub Spends : Search → Search → Type 0
Spends old new = new.left + length new.log ≡ old.left + length old.log

-- what a step came to
abbrev pub Stepped : Search → Search → Step → Type 0
Stepped old new Decided = IsDecided old new
Stepped old new (Back n) = IsBack old new n
Stepped old new (Ended found) = Finds new found

-- what a call with this budget came to
abbrev pub Ran : ℕ → Search → Search → Found → Type 0
Ran budget old new (Sat a) = Satisfies new.clauses a
Ran budget old new (Unsat row) = Closes new row
Ran budget old new Spent = length new.log ≡ length old.log + budget
