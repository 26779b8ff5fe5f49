-- What is looked for in a clause.
use Rattle.std.specs.Prelude.{◌≡◌, ◌≢◌, ◌⊎◌, ℕ, ◌<◌, ◌≤◌, true, false, List, length, ℤ, neg_ℤ}
use Rattle.hk_cnf.specs.Literal.{has}
use Rattle.hk_cdcl.specs.Path.{lit_at}
use Rattle.hk_cdcl.specs.Records.{Pair}

-- the watched literals are these two, which differ
pub record IsOtherOf (pair : Pair) (l other : ℤ) : Type 0 where
  pub apart : l ≢ other
  pub is : ((pair.first ≡ l) × (pair.second ≡ other)) ⊎ ((pair.first ≡ other) × (pair.second ≡ l))

-- a literal of the clause other than k that is not false
pub record IsOther (lits : List ℤ) (c : List ℤ) (k l : ℤ) : Type 0 where
  pub member : has c l ≡ true
  pub left : has lits (neg_ℤ l) ≡ false
  pub other : k ≢ l

-- the literal at this place of the clause is neither false nor k
pub record IsLeftAt (lits : List ℤ) (c : List ℤ) (k : ℤ) (place : ℕ) : Type 0 where
  pub inside : place < length c
  pub left : has lits (neg_ℤ (lit_at c place)) ≡ false
  pub other : k ≢ lit_at c place

-- between two places all literals of the clause but k are false
abbrev pub AreFalseBetween : List ℤ → List ℤ → ℤ → ℕ → ℕ → Type 0
AreFalseBetween lits c k from to = (n : ℕ) → from ≤ n → n < to → (k ≡ lit_at c n) ⊎ (has lits (neg_ℤ (lit_at c n)) ≡ true)
