-- The answers of the solver.
use Rattle.std.specs.Prelude.{◌≡◌, ℕ, ◌+◌, Bool, List, ◌∷◌, ◌++◌, [], length}
use Rattle.hk_cnf.specs.Clauses.{Clauses}
use Rattle.hk_lrat.specs.declared.log.LratRow.{LratRow}
use Rattle.hk_lrat.specs.Refutes.{Refutes}
use Rattle.hk_cdcl.specs.declared.search.Found.{Found}
use Rattle.hk_cdcl.specs.declared.search.Found.TheVariants.{Sat as FoundSat, Unsat as FoundUnsat, Spent as FoundSpent}
use Rattle.hk_cdcl.specs.declared.solver.SolveEnd.{SolveEnd}
use Rattle.hk_cdcl.specs.declared.solver.SolveEnd.TheVariants.{Sat, Unsat, Spent}
use Rattle.hk_cdcl.specs.Fresh.{IsSpent}
use Rattle.hk_cdcl.specs.Held.{Held, Follows}
use Rattle.hk_cdcl.specs.Solved.{Satisfies}

-- what holds of the assignment, of the refuting log and of the spent log
abbrev pub IfSat : (List Bool → Type 0) → SolveEnd → Type 0
IfSat P (Sat a) = P a
IfSat P (Unsat log) = Unit {0}
IfSat P (Spent log) = Unit {0}

abbrev pub IfUnsat : (List LratRow → Type 0) → SolveEnd → Type 0
IfUnsat P (Sat a) = Unit {0}
IfUnsat P (Unsat log) = P log
IfUnsat P (Spent log) = Unit {0}

abbrev pub IfSpent : (List LratRow → Type 0) → SolveEnd → Type 0
IfSpent P (Sat a) = Unit {0}
IfSpent P (Unsat log) = Unit {0}
IfSpent P (Spent log) = P log

-- what holds of the log of either kind
abbrev pub IfLogged : (List LratRow → Type 0) → SolveEnd → Type 0
IfLogged P (Sat a) = Unit {0}
IfLogged P (Unsat log) = P log
IfLogged P (Spent log) = P log

-- the log is spent, and so many rows of it came since the earlier log
pub record IsSpentSince (list : Clauses) (earlier log : List LratRow) (budget : ℕ) : Type 0 where
  pub spent : IsSpent list log budget
  pub count : length log ≡ length earlier + budget

-- what a call came to, before the answer takes the log
abbrev pub Came : Held → Held → ℕ → Found → Type 0
Came old new budget (FoundSat a) = Satisfies old.list a
Came old new budget (FoundUnsat row) = Refutes old.list (new.log ++ row ∷ [])
Came old new budget FoundSpent = IsSpentSince old.list old.log new.log budget

-- each answer with its evidence, over the list and the log before the call
abbrev pub Ends : Held → ℕ → SolveEnd → Type 0
Ends old budget (Sat a) = Satisfies old.list a
Ends old budget (Unsat log) = Refutes old.list log × Follows old.log log
Ends old budget (Spent log) = IsSpentSince old.list old.log log budget × Follows old.log log
