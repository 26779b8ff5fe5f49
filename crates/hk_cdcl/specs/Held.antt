-- A solver as contracts see it.
use Rattle.std.specs.Prelude.{◌≡◌, List, ◌++◌}
use Rattle.hk_cnf.specs.Clauses.{Clauses}
use Rattle.hk_lrat.specs.declared.log.LratRow.{LratRow}

-- the list that is solved, and the rows of all calls so far
pub record Held : Type 0 where
  pub list : Clauses
  pub log : List LratRow

-- rows came at the end
pub record Follows (old new : List LratRow) : Type 0 where
  pub more : List LratRow
  pub is : new ≡ old ++ more
