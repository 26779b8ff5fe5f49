-- Literals that are marked true in the present row.
use Rattle.std.specs.Prelude.{◌≡◌, ℕ, Bool, ◌==◌, List, ℤ, slice_index}
use Rattle.hk_cnf.specs.Literal.{code_of, IsWithin}

-- the mark of a literal is the number of the row in which it was last true
abbrev pub marked : List ℕ → ℕ → ℤ → Bool
marked marks row l = slice_index marks (code_of l) == row

-- two sets hold the same of the literals of these variables
pub record Agree (vars : ℕ) (t u : ℤ → Bool) : Type 0 where
  pub same : (l : ℤ) → IsWithin vars l → t l ≡ u l
