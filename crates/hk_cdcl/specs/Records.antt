-- The records of clauses as contracts see them, and literals by their codes.
use Rattle.std.specs.Prelude.{ℕ, suc, ◌%◌, ◌/◌, nat_eq, if◌then◌else◌, List, [], ◌∷◌, ℤ, pos, negsuc, slice_index_or}

-- the literal with a code: even for a variable, odd for its negation
abbrev pub lit_of : ℕ → ℤ
lit_of n = if nat_eq (n % 2) 0 then pos (suc (n / 2)) else negsuc (n / 2)

-- the watched literals of a clause
pub record Pair : Type 0 where
  pub first : ℤ
  pub second : ℤ

-- for each clause where its record begins, its watched literals, and all its literals
pub record Recorded : Type 0 where
  pub starts : List ℕ
  pub pairs : List Pair
  pub texts : List (List ℤ)

-- the watched literals of the clause at a place
abbrev pub pair_at : List Pair → ℕ → Pair
pair_at pairs k = slice_index_or pairs k (record { first = pos 0; second = pos 0 })

-- the literals of the clause at a place
abbrev pub text_at : List (List ℤ) → ℕ → List ℤ
text_at texts k = slice_index_or texts k []

-- the place of the clause whose record begins there
abbrev pub place_in : List ℕ → ℕ → ℕ
place_in [] start = 0
place_in (s ∷ starts) start = if nat_eq s start then 0 else suc (place_in starts start)
