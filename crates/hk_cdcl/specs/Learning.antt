-- The steps in which a learned clause and its hints are written.
use Rattle.std.specs.Prelude.{◌≡◌, ◌⊎◌, ℕ, ◌+◌, ◌-◌, ◌<◌, ◌≤◌, Bool, true, false, List, [], ◌∷◌, ◌++◌, ◌||◌, ◌&&◌, ℤ, neg_ℤ, length, take, slice_index, slice_index_or}
use Rattle.std.specs.List.{All, Contains}
use Rattle.hk_cnf.specs.Literal.{has, denied}
use Rattle.hk_lrat.specs.Log.{Live, numbered, follow}
use Rattle.hk_cdcl.specs.Path.{Path, IsReason, lit_at, clause_at}
use Rattle.hk_cdcl.specs.Propagation.{IsConflict}
use Rattle.hk_cdcl.specs.Analysis.{seen_at, AreSeen}

-- a literal is added, and the clause then rests on the later one of its place and that before
abbrev pub KeptAt : ℤ → ℕ → List ℤ → List ℤ → ℕ → ℕ → Type 0
KeptAt l place old new rest end = (new ≡ old ++ l ∷ []) × (((end ≡ rest) × (place < rest)) ⊎ ((end ≡ place + 1) × (rest ≤ place)))

-- a literal at a place is dropped, or its negation is added
abbrev pub SortedAt : (ℕ → Bool) → ℤ → ℕ → List ℤ → List ℤ → List ℕ → List ℕ → ℕ → ℕ → Type 0
SortedAt drops l place old new was dropped rest end =
    ((drops place ≡ true) × (dropped ≡ was ++ place ∷ []) × (new ≡ old) × (end ≡ rest))
    ⊎ ((drops place ≡ false) × (dropped ≡ was) × KeptAt l place old new rest end)

-- a literal of the clause other than the asserted one became false before `rest`, at a place that is not dropped
pub record IsBefore (lits : List ℤ) (drops : ℕ → Bool) (rest : ℕ) (l : ℤ) : Type 0 where
  pub place : ℕ
  pub kept : drops place ≡ false
  pub before : place < rest
  pub is : lit_at lits place ≡ neg_ℤ l

-- a place is dropped, or the negation of its literal is in the clause
abbrev pub IsSorted : List ℤ → (ℕ → Bool) → List ℤ → List ℕ → ℕ → Type 0
IsSorted lits drops clause dropped n = Contains dropped n ⊎ (has clause (neg_ℤ (lit_at lits n)) ≡ true)

-- the asserted literal, and the negations of the marked literals up to `to` that are not dropped
pub record Collected (lits : List ℤ) (seen : List Bool) (drops : ℕ → Bool) (to uip : ℕ) (clause : List ℤ) (dropped : List ℕ) (rest : ℕ) : Type 0 where
  pub asserted : has clause (neg_ℤ (lit_at lits uip)) ≡ true
  pub sound : All (λ l. (l ≡ neg_ℤ (lit_at lits uip)) ⊎ IsBefore lits drops rest l) clause
  pub complete : (n : ℕ) → n < to → seen_at seen (lit_at lits n) ≡ true → IsSorted lits drops clause dropped n
  pub low : All (λ n. (drops n ≡ true) × (n < to)) dropped
  pub bound : rest ≤ to
  pub last : (rest ≡ 0) ⊎ ((1 ≤ rest) × (has clause (neg_ℤ (lit_at lits (rest - 1))) ≡ true))

-- the asserted literal, and the negations of those at the places that are not dropped
pub record Gathered (lits : List ℤ) (drops : ℕ → Bool) (places : List ℕ) (below uip : ℕ) (clause : List ℤ) (dropped : List ℕ) (rest : ℕ) : Type 0 where
  pub asserted : has clause (neg_ℤ (lit_at lits uip)) ≡ true
  pub sound : All (λ l. (l ≡ neg_ℤ (lit_at lits uip)) ⊎ IsBefore lits drops rest l) clause
  pub complete : All (IsSorted lits drops clause dropped) places
  pub low : All (λ n. (drops n ≡ true) × (n < below)) dropped
  pub bound : rest ≤ below
  pub last : (rest ≡ 0) ⊎ ((1 ≤ rest) × (has clause (neg_ℤ (lit_at lits (rest - 1))) ≡ true))

-- a marked literal's reason is added
abbrev pub HintAt : Path → List Bool → ℕ → List ℕ → List ℕ → Type 0
HintAt p seen n old new =
    ((seen_at seen (lit_at p.lits n) ≡ true) × (new ≡ old ++ slice_index p.reasons n ∷ []))
    ⊎ ((seen_at seen (lit_at p.lits n) ≡ false) × (new ≡ old))

-- the reason of a place is added where the places before `next` are done with
abbrev pub HintedOnce : Path → ℕ → List ℕ → List ℕ → ℕ → ℕ → Type 0
HintedOnce p n old new next end =
    ((n < next) × (new ≡ old) × (end ≡ next))
    ⊎ ((next ≤ n) × (new ≡ old ++ slice_index p.reasons n ∷ []) × (end ≡ n + 1))

-- the literal at the place is marked, and has a reason with marked literals alone; the clause has no literal of its variable
pub record IsHinted (clauses : List (List ℤ)) (p : Path) (seen : List Bool) (c : List ℤ) (n : ℕ) : Type 0 where
  pub marked : seen_at seen (lit_at p.lits n) ≡ true
  pub reason : IsReason clauses p.lits n (slice_index p.reasons n)
  pub reason_seen : AreSeen seen (clause_at clauses (slice_index p.reasons n))
  pub not_denied : denied c (lit_at p.lits n) ≡ false
  pub not_member : denied c (neg_ℤ (lit_at p.lits n)) ≡ false

-- the marked literals before a place are denied by the clause, or dropped; those that are dropped, and all from it on, have
-- hints
pub record IsDerivable (clauses : List (List ℤ)) (p : Path) (seen : List Bool) (dropped : List ℕ) (from : ℕ) (c : List ℤ) (conflict : ℕ) : Type 0 where
  pub found : IsConflict clauses p.lits conflict
  pub conflict_seen : AreSeen seen (slice_index_or clauses conflict [])
  pub sooner : (n : ℕ) → n < from → n < length p.lits → seen_at seen (lit_at p.lits n) ≡ true → Contains dropped n ⊎ (has c (neg_ℤ (lit_at p.lits n)) ≡ true)
  pub low : All (λ n. (n < from) × (n < length p.lits) × IsHinted clauses p seen c n) dropped
  pub later : (n : ℕ) → from ≤ n → n < length p.lits → seen_at seen (lit_at p.lits n) ≡ true → IsHinted clauses p seen c n

-- the negations of the clause's literals, and the marked literals before a place
abbrev pub upto : List ℤ → List Bool → List ℤ → ℕ → ℤ → Bool
upto c seen lits n l = denied c l || (has (take n lits) l && seen_at seen l)

-- following these hints from the clause's negations comes to the marked literals before the place
pub record LeadsTo (live : Live) (c : List ℤ) (seen : List Bool) (lits : List ℤ) (n : ℕ) (hints : List ℕ) : Type 0 where
  pub each : (rest : List ℕ) → follow live (denied c) (hints ++ rest) ≡ follow live (upto c seen lits n) rest

-- the same of hints that name clauses of the list
pub record Leads (clauses : List (List ℤ)) (c : List ℤ) (seen : List Bool) (lits : List ℤ) (n : ℕ) (hints : List ℕ) : Type 0 where
  pub to : LeadsTo (numbered 1 clauses) c seen lits n hints
  pub named : All (λ h. h ≤ length clauses) hints
