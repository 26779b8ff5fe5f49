-- Clause lists, and the assignments that satisfy them.
use Rattle.std.specs.Prelude.{◌≡◌, ℕ, Bool, false, List, length, ℤ}
use Rattle.std.specs.List.{list_any, list_all, All}
use Rattle.hk_cnf.specs.Literal.{value_at, IsWithin}

-- a number of variables, and clauses: each a list of literals, read as a set
pub record Clauses : Type 0 where
  pub vars : ℕ
  pub clauses : List (List ℤ)

-- the assignment makes one of the clause's literals true
abbrev pub clause_value : List Bool → List ℤ → Bool
clause_value a c = list_any (value_at a) c

-- the assignment makes each clause true
abbrev pub clauses_value : List Bool → List (List ℤ) → Bool
clauses_value a cs = list_all (clause_value a) cs

-- each literal of each clause is one of the variables or its negation
abbrev pub AreWithin : ℕ → List (List ℤ) → Type 0
AreWithin vars cs = All (λ c. All (IsWithin vars) c) cs

-- no assignment satisfies the list
abbrev pub IsUnsatisfiable : Clauses → Type 0
IsUnsatisfiable list = (a : List Bool) → length a ≡ list.vars → clauses_value a list.clauses ≡ false
