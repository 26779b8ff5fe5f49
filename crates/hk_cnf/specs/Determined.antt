-- What the clauses of the gates fix, and which clauses stand beside them.
use Rattle.std.specs.Prelude.{◌≡◌, ℕ, ◌<◌, Bool, true, false, nat_eq, List, [], ◌∷◌, length, ℤ}
use Rattle.std.specs.List.{list_any}
use Rattle.hk_cnf.specs.Clauses.{clauses_value}
use Rattle.hk_cnf.specs.Circuit.{Gate, Circuit, all_gate_clauses}
use Rattle.hk_cnf.specs.CircuitGrowth.{values_of}

-- a gate fixes the variable at this place
abbrev pub is_output : List Gate → ℕ → Bool
is_output gs p = list_any (λ g. nat_eq p g.1.output) gs

-- the assignment satisfies the clauses of the gates, and gives these values to the variables that no gate fixes
pub record Completes (c : Circuit) (v : ℕ → Bool) (a : List Bool) : Type 0 where
  pub sized : length a ≡ c.vars
  pub chosen : (p : ℕ) → p < c.vars → is_output c.gates p ≡ false → values_of a p ≡ v p
  pub satisfies : clauses_value a (all_gate_clauses c.gates) ≡ true

-- each choice of values extends to exactly one such assignment
pub record IsDetermined (c : Circuit) : Type 0 where
  pub completion : (ℕ → Bool) → List Bool
  pub completes : (v : ℕ → Bool) → Completes c v (completion v)
  pub only : (v : ℕ → Bool) (a : List Bool) → Completes c v a → a ≡ completion v

-- the elements of two lists, each in its order, make a third
pub data Mixes {A : Type 0} : List A → List A → List A → Type 0 where
  none : Mixes [] [] []
  left : {x : A} {xs ys zs : List A} → Mixes xs ys zs → Mixes (x ∷ xs) ys (x ∷ zs)
  right : {y : A} {xs ys zs : List A} → Mixes xs ys zs → Mixes xs (y ∷ ys) (y ∷ zs)

-- the clauses are those of the gates, and required ones
pub record IsMixed (c : Circuit) : Type 0 where
  pub required : List (List ℤ)
  pub mixes : Mixes (all_gate_clauses c.gates) required c.clauses
