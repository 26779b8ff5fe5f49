-- Which clause of a whole list each clause of a part of it is.
use Rattle.std.specs.Prelude.{◌≡◌, ℕ, ◌+◌, ◌≤◌, List, length, take, ℤ, slice_index_or}
use Rattle.std.specs.List.{All}
use Rattle.hk_cnf.specs.Clauses.{Clauses}
use Rattle.hk_lrat.specs.declared.log.LratRow.{LratRow}
use Rattle.hk_lrat.specs.declared.log.LratRow.TheVariants.{Add, Delete}
use Rattle.hk_cdcl.specs.declared.names.Part.{Part}
use Rattle.hk_cdcl.specs.Path.{clause_at}
use Rattle.hk_cdcl.specs.Propagation.{Grown}

-- the id in the whole list of an id of the part, or 0
abbrev pub named : List ℕ → ℕ → ℕ
named names id = slice_index_or names id 0

-- each clause of the part stands in the whole list under its name
pub record AreNames (part whole : List (List ℤ)) (names : List ℕ) : Type 0 where
  pub count : length names ≡ length part + 1
  pub inside : All (λ n. n ≤ length whole) names
  pub some : (id : ℕ) → 1 ≤ id → id ≤ length part → 1 ≤ named names id
  pub same : (id : ℕ) → 1 ≤ id → id ≤ length part → clause_at whole (named names id) ≡ clause_at part id

-- the first clauses of the list
abbrev pub front_of : ℕ → Clauses → Clauses
front_of given list = record { vars = list.vars; clauses = take given list.clauses }

-- the part is the front of the list
pub record IsFront (given : ℕ) (whole : Clauses) (part : Part) : Type 0 where
  pub clauses : part.clauses ≡ front_of given whole
  pub names : AreNames part.clauses.clauses whole.clauses part.names.items

-- the part begins with the front of the list
pub record IsPart (given : ℕ) (whole : Clauses) (part : Part) : Type 0 where
  pub vars : part.clauses.vars ≡ whole.vars
  pub front : Grown (take given whole.clauses) part.clauses.clauses
  pub names : AreNames part.clauses.clauses whole.clauses part.names.items

-- the hints of an addition, or the ids of a deletion
abbrev pub ids_of : LratRow → List ℕ
ids_of (Add id c hints) = hints
ids_of (Delete ids) = ids
