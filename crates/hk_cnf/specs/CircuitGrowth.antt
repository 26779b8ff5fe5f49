-- How circuits grow: at their ends, and so that nothing that was said before changes.
use Rattle.std.specs.Prelude.{◌≡◌, ℕ, ◌-◌, ◌<◌, ◌≤◌, Bool, true, false, List, ◌++◌, length, take, ℤ, reverse, slice_index_or}
use Rattle.std.specs.List.{list_any, list_all}
use Rattle.hk_cnf.specs.Literal.{place_of}
use Rattle.hk_cnf.specs.Clauses.{clauses_value}
use Rattle.hk_cnf.specs.Circuit.{Circuit, lit_true, run, gate_value, all_gate_clauses}

-- the values make a literal of the clause true
abbrev pub clause_true : (ℕ → Bool) → List ℤ → Bool
clause_true v c = list_any (lit_true v) c

-- a literal of the clause is true, where the variables that no gate fixes have these values
abbrev pub clause_holds : Circuit → List ℤ → (ℕ → Bool) → Bool
clause_holds c ls v = list_any (λ l. gate_value c l v) ls

-- each clause is true, where the variables that no gate fixes have these values
unfoldable pub holds : Circuit → (ℕ → Bool) → Bool
holds c v = list_all (clause_true (run (reverse c.gates) v)) c.clauses

-- how many variables no gate fixes, and how many clauses are of no gate
pub record Inputs : Type 0 where
  pub free : ℕ
  pub required : ℕ

unfoldable pub inputs_of : Circuit → Inputs
inputs_of c = record { free = c.vars - length c.gates; required = length c.clauses - length (all_gate_clauses c.gates) }

-- the second circuit is the first with variables, gates and their clauses at its end: earlier literals keep their values, and what is added holds
pub record IsGrown (old new : Circuit) : Type 0 where
  pub vars : old.vars ≤ new.vars
  pub values : (l : ℤ) → place_of l < old.vars → (v : ℕ → Bool) → gate_value new l v ≡ gate_value old l v
  pub clauses : take (length old.clauses) new.clauses ≡ old.clauses
  pub gates : take (length old.gates) new.gates ≡ old.gates
  pub holds_as : (v : ℕ → Bool) → holds new v ≡ holds old v

-- an assignment as values of the variables by their places
abbrev pub values_of : List Bool → ℕ → Bool
values_of a p = slice_index_or a p false

-- more values behind an assignment satisfy the circuit's clauses
pub record Extends (c : Circuit) (a more : List Bool) : Type 0 where
  pub sized : length (a ++ more) ≡ c.vars
  pub satisfies : clauses_value (a ++ more) c.clauses ≡ true
