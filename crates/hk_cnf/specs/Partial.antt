-- A clause list while it is read.
use Rattle.std.specs.Prelude.{ℕ, List, ℤ}

-- the clauses so far, and the literals of the clause that is not ended
pub record Partial : Type 0 where
  pub vars : ℕ
  pub clauses : List (List ℤ)
  pub begun : List ℤ
