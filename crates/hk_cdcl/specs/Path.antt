-- The trail as contracts see it: the literals that were made true, in order, each with the clause that made it so.
use Rattle.std.specs.Prelude.{◌≡◌, ◌≢◌, ℕ, ◌+◌, ◌-◌, ◌<◌, ◌≤◌, ◌^◌, Bool, true, false, ◌||◌, List, [], ◌∷◌, ◌++◌, suc, length, take, ℤ, pos, negsuc, slice_index, slice_index_or}
use Rattle.std.specs.List.{All, AllPairs}
use Rattle.hk_cnf.specs.declared.hint.Hint.TheVariants.{Unit as OneLeft}
use Rattle.hk_cnf.specs.Literal.{IsWithin, place_of, has}
use Rattle.hk_cnf.specs.Hint.{hint_of}

-- the literals, and for each the id of its reason: a clause's place, counted from 1, or 0 for a decision
pub record Path : Type 0 where
  pub vars : ℕ
  pub lits : List ℤ
  pub reasons : List ℕ

-- no two literals are of one variable
abbrev pub AreApart : List ℤ → Type 0
AreApart lits = AllPairs (λ k l. place_of k ≢ place_of l) lits

-- what holds of every trail
pub record IsPath (p : Path) : Type 0 where
  pub few : p.vars < 2 ^ 63
  pub within : All (IsWithin p.vars) p.lits
  pub apart : AreApart p.lits
  pub count : length p.lits ≤ p.vars
  pub together : length p.reasons ≡ length p.lits

-- one literal more
abbrev pub with_step : Path → ℤ → ℕ → Path
with_step p l reason = record p { lits = p.lits ++ l ∷ []; reasons = p.reasons ++ reason ∷ [] }

-- the first literals alone
abbrev pub cut_at : Path → ℕ → Path
cut_at p n = record p { lits = take n p.lits; reasons = take n p.reasons }

-- the literal at a place
abbrev pub lit_at : List ℤ → ℕ → ℤ
lit_at lits n = slice_index_or lits n (pos 0)

-- the clause of an id, counted from 1
abbrev pub clause_at : List (List ℤ) → ℕ → List ℤ
clause_at clauses id = slice_index_or clauses (id - 1) []

-- the clause of this id made the literal at this place true: its other literals are false by literals before the place
pub record IsReason (clauses : List (List ℤ)) (lits : List ℤ) (n id : ℕ) : Type 0 where
  pub named : 1 ≤ id
  pub inside : id ≤ length clauses
  pub unit : hint_of (has (take n lits)) (clause_at clauses id) ≡ OneLeft (lit_at lits n)

-- each place from `from` up to `to` has a reason
pub record AreReasons (clauses : List (List ℤ)) (p : Path) (from to : ℕ) : Type 0 where
  pub each : (n : ℕ) → from ≤ n → n < to → IsReason clauses p.lits n (slice_index p.reasons n)

-- literals were added at the end, each with its reason
pub record Extends (clauses : List (List ℤ)) (old new : Path) : Type 0 where
  pub vars : new.vars ≡ old.vars
  pub more : List ℤ
  pub lits : new.lits ≡ old.lits ++ more
  pub more_reasons : List ℕ
  pub reasons : new.reasons ≡ old.reasons ++ more_reasons
  pub together : length more_reasons ≡ length more
  pub implied : (n : ℕ) → n < length more → IsReason clauses new.lits (length old.lits + n) (slice_index more_reasons n)

-- the variable at this place is set
abbrev pub is_set : List ℤ → ℕ → Bool
is_set lits n = has lits (pos (suc n)) || has lits (negsuc n)

-- each variable is set
abbrev pub AreSet : List ℤ → ℕ → Type 0
AreSet lits vars = (n : ℕ) → n < vars → is_set lits n ≡ true

-- the variable at this place is not set
pub record IsUnset (lits : List ℤ) (vars n : ℕ) : Type 0 where
  pub inside : n < vars
  pub unset : is_set lits n ≡ false

-- a truth value for each variable, in their order
pub record AreTruths (lits : List ℤ) (vars : ℕ) (values : List Bool) : Type 0 where
  pub each : length values ≡ vars
  pub same : (n : ℕ) → n < vars → slice_index_or values n false ≡ has lits (pos (suc n))
