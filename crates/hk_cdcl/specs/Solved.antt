-- What a list comes to.
use Rattle.std.specs.Prelude.{◌≡◌, Bool, true, List, length}
use Rattle.hk_cnf.specs.Clauses.{Clauses, clauses_value}

-- the assignment gives each variable a value, and makes each clause true
pub record Satisfies (list : Clauses) (a : List Bool) : Type 0 where
  pub each : length a ≡ list.vars
  pub holds : clauses_value a list.clauses ≡ true
