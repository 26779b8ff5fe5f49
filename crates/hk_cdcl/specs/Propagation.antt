-- What unit propagation is asked and answers.
use Rattle.std.specs.Prelude.{◌≡◌, ℕ, ◌<◌, ◌++◌, List, length, take, ℤ, slice_index_or, []}
use Rattle.hk_cnf.specs.declared.hint.Hint.TheVariants.{False, Other}
use Rattle.hk_cnf.specs.Literal.{has}
use Rattle.hk_cnf.specs.Hint.{hint_of}

-- a front of the trail was seen
pub record HasSeen (fits : List ℤ → Type 0) (lits : List ℤ) : Type 0 where
  pub front : ℕ
  pub seen : fits (take front lits)

-- all literals of the clause at this place are false
pub record IsConflict (clauses : List (List ℤ)) (lits : List ℤ) (place : ℕ) : Type 0 where
  pub inside : place < length clauses
  pub falsified : hint_of (has lits) (slice_index_or clauses place []) ≡ False

-- clauses came at the end
pub record Grown (old new : List (List ℤ)) : Type 0 where
  pub more : List (List ℤ)
  pub is : new ≡ old ++ more

-- nothing was added, as the clause at this place leaves nothing to do
pub record Rested (clauses : List (List ℤ)) (old new : List ℤ) (place : ℕ) : Type 0 where
  pub rests : length new ≡ length old → hint_of (has old) (slice_index_or clauses place []) ≡ Other
