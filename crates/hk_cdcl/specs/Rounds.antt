-- How a solver is kept between two calls.
use Rattle.std.specs.Prelude.{◌≤◌, length}
use Rattle.hk_cnf.specs.Clauses.{Clauses}
use Rattle.hk_cdcl.specs.declared.solver.Solver.TheInside.{Inside}
use Rattle.hk_cdcl.specs.Held.{Held}
use Rattle.hk_cdcl.specs.Names.{front_of}
use Rattle.hk_cdcl.specs.Searching.{IsLogged}

-- the first clauses are the given ones
abbrev pub given_of : Inside → Clauses
given_of s = front_of s.given s.search.clauses

abbrev pub held_of : Inside → Held
held_of s = record { list = given_of s; log = s.search.log }

pub record IsSolver (s : Inside) : Type 0 where
  pub inside : s.given ≤ length s.search.clauses.clauses
  pub logged : IsLogged (given_of s) s.search.clauses s.search.log
