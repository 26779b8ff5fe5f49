-- Literals as whole numbers, as DIMACS CNF writes them: v is the variable v, counted from 1, and -v is its negation.
use Rattle.std.specs.Prelude.{◌≢◌, ℕ, zero, suc, ◌<◌, ◌^◌, ◌*◌, ◌+◌, Bool, true, false, not, List, ℤ, pos, negsuc, neg_ℤ, nat_abs, slice_index_or}
use Rattle.std.specs.List.{list_any}
use Rattle.std.specs.Ordering.{int_eq}

-- a literal is not zero, and its size has at most 63 bits
pub record IsLiteral (l : ℤ) : Type 0 where
  pub nonzero : l ≢ pos 0
  pub small : nat_abs l < 2 ^ 63

-- the place of a literal's variable, counted from 0
abbrev pub place_of : ℤ → ℕ
place_of (pos zero) = 0
place_of (pos (suc n)) = n
place_of (negsuc n) = n

-- a place for each literal of each variable: even for the variable, odd for its negation
abbrev pub code_of : ℤ → ℕ
code_of (pos zero) = 0
code_of (pos (suc n)) = 2 * n
code_of (negsuc n) = 2 * n + 1

-- a literal of one of the first `vars` variables
pub record IsWithin (vars : ℕ) (l : ℤ) : Type 0 where
  pub literal : IsLiteral l
  pub below : place_of l < vars

-- what an assignment, a truth value for each variable, makes of a literal
abbrev pub value_at : List Bool → ℤ → Bool
value_at a (pos zero) = false
value_at a (pos (suc n)) = slice_index_or a n false
value_at a (negsuc n) = not (slice_index_or a n false)

-- the literal is one of these
abbrev pub has : List ℤ → ℤ → Bool
has ls l = list_any (int_eq l) ls

-- the literals that are true when each literal of the clause is false
abbrev pub denied : List ℤ → ℤ → Bool
denied c l = has c (neg_ℤ l)

-- the literal is the negation of a variable
abbrev pub is_negation : ℤ → Bool
is_negation (pos n) = false
is_negation (negsuc n) = true
