-- Which literals a conflict rests on, and the clause that is learned from it.
use Rattle.std.specs.Prelude.{◌≡◌, ◌⊎◌, ℕ, ◌-◌, ◌<◌, ◌≤◌, ◌≢◌, ◌==◌, Bool, true, false, if◌then◌else◌, List, [], length, take, ℤ, neg_ℤ, slice_index, slice_index_or, None}
use Rattle.std.specs.List.{All, Contains, list_all}
use Rattle.hk_cnf.specs.Literal.{IsWithin, place_of, has, denied}
use Rattle.hk_lrat.specs.Log.{numbered, has_both, follow}
use Rattle.hk_cdcl.specs.Path.{Path, IsReason, lit_at, clause_at}

-- the literal's variable is marked
abbrev pub seen_at : List Bool → ℤ → Bool
seen_at seen l = slice_index_or seen (place_of l) false

-- the variables of all literals of the clause are marked
abbrev pub AreSeen : List Bool → List ℤ → Type 0
AreSeen seen clause = All (λ l. seen_at seen l ≡ true) clause

-- a literal of the list is of this variable
pub record HasVariable (ls : List ℤ) (v : ℕ) : Type 0 where
  pub place : ℕ
  pub inside : place < length ls
  pub is : place_of (lit_at ls place) ≡ v

-- the variables of a clause were marked, and no others
pub record Marks (old new : List Bool) (clause : List ℤ) : Type 0 where
  pub same : length new ≡ length old
  pub kept : (v : ℕ) → slice_index_or old v false ≡ true → slice_index_or new v false ≡ true
  pub only : (v : ℕ) → slice_index_or new v false ≡ true → (slice_index_or old v false ≡ true) ⊎ HasVariable clause v
  pub marked : AreSeen new clause

-- the lowest place from `below` on at which a literal of the clause was set, or `lowest` where that is lower
pub record IsLowestOf (lits : List ℤ) (below : ℕ) (clause : List ℤ) (lowest lower : ℕ) : Type 0 where
  pub bound : lower ≤ lowest
  pub least : (n : ℕ) → below ≤ n → n < length lits → HasVariable clause (place_of (lit_at lits n)) → lower ≤ n
  pub found : (lower ≡ lowest) ⊎ ((below ≤ lower) × (lower < length lits) × HasVariable clause (place_of (lit_at lits lower)))

-- the lowest marked place of the level that begins at `below`
pub record IsLowest (lits : List ℤ) (below : ℕ) (seen : List Bool) (lowest : ℕ) : Type 0 where
  pub least : (n : ℕ) → below ≤ n → n < length lits → seen_at seen (lit_at lits n) ≡ true → lowest ≤ n
  pub after : below ≤ lowest
  pub inside : lowest < length lits
  pub marked : seen_at seen (lit_at lits lowest) ≡ true

-- the literal at the place, where it is marked, was resolved: the literals of its reason are marked, and other marks came
-- at earlier places alone
pub record Resolved (clauses : List (List ℤ)) (p : Path) (old new : List Bool) (place : ℕ) : Type 0 where
  pub same : length new ≡ length old
  pub kept : (v : ℕ) → slice_index_or old v false ≡ true → slice_index_or new v false ≡ true
  pub earlier : (n : ℕ) → place ≤ n → n < length p.lits → seen_at new (lit_at p.lits n) ≡ true → seen_at old (lit_at p.lits n) ≡ true
  pub closed : seen_at new (lit_at p.lits place) ≡ true → AreSeen new (clause_at clauses (slice_index p.reasons place))

-- the same of each place from `from` up to `to`
pub record Closed (clauses : List (List ℤ)) (p : Path) (old new : List Bool) (from to : ℕ) : Type 0 where
  pub same : length new ≡ length old
  pub kept : (v : ℕ) → slice_index_or old v false ≡ true → slice_index_or new v false ≡ true
  pub earlier : (n : ℕ) → to ≤ n → n < length p.lits → seen_at new (lit_at p.lits n) ≡ true → seen_at old (lit_at p.lits n) ≡ true
  pub closed : (n : ℕ) → from ≤ n → n < to → seen_at new (lit_at p.lits n) ≡ true → AreSeen new (clause_at clauses (slice_index p.reasons n))

-- each literal of the trail is a decision or has a reason
pub record AreNamed (clauses : List (List ℤ)) (p : Path) : Type 0 where
  pub each : (n : ℕ) → n < length p.lits → (slice_index p.reasons n ≡ 0) ⊎ IsReason clauses p.lits n (slice_index p.reasons n)

-- the literal at the place has a reason whose literals are all marked: the other marked literals imply it
abbrev pub is_redundant : List (List ℤ) → Path → List Bool → ℕ → Bool
is_redundant clauses p seen n = if slice_index p.reasons n == 0 then false else list_all (seen_at seen) (clause_at clauses (slice_index p.reasons n))

-- a marked literal at the place is kept: it is of an earlier level and not dropped, or the unique implication point
abbrev pub IsKept : (ℕ → Bool) → ℕ → ℕ → ℕ → Type 0
IsKept drops below uip n = ((drops n ≡ false) × (n < below)) ⊎ (n ≡ uip)

-- or it is resolved: it is of an earlier level and dropped, or another one of the conflict's level
abbrev pub IsResolved : (ℕ → Bool) → ℕ → ℕ → ℕ → Type 0
IsResolved drops below uip n = ((drops n ≡ true) × (n < below)) ⊎ ((below ≤ n) × (n ≢ uip))

-- the literals of the conflict are marked, and those of the reasons of all marked literals that are resolved
pub record IsTraced (clauses : List (List ℤ)) (p : Path) (seen : List Bool) (drops : ℕ → Bool) (below uip conflict : ℕ) : Type 0 where
  pub conflict_seen : AreSeen seen (slice_index_or clauses conflict [])
  pub reason : (n : ℕ) → n < length p.lits → IsResolved drops below uip n → seen_at seen (lit_at p.lits n) ≡ true → IsReason clauses p.lits n (slice_index p.reasons n)
  pub reason_seen : (n : ℕ) → n < length p.lits → IsResolved drops below uip n → seen_at seen (lit_at p.lits n) ≡ true → AreSeen seen (clause_at clauses (slice_index p.reasons n))

-- the literal is the negation of a kept one
pub record IsNegated (lits : List ℤ) (drops : ℕ → Bool) (below uip : ℕ) (l : ℤ) : Type 0 where
  pub place : ℕ
  pub inside : place < length lits
  pub kept : IsKept drops below uip place
  pub is : lit_at lits place ≡ neg_ℤ l

-- the clause has the negations of the marked literals that are kept, and no others
pub record AreNegations (lits : List ℤ) (seen : List Bool) (drops : ℕ → Bool) (below uip : ℕ) (clause : List ℤ) : Type 0 where
  pub sound : All (IsNegated lits drops below uip) clause
  pub complete : (n : ℕ) → n < length lits → IsKept drops below uip n → seen_at seen (lit_at lits n) ≡ true → has clause (neg_ℤ (lit_at lits n)) ≡ true

-- the clause leaves the literal unset at the end of the level that ends at `rest`, and makes the others false there;
-- the last of them became false just before
pub record IsAsserting (lits : List ℤ) (below rest : ℕ) (clause : List ℤ) : Type 0 where
  pub uip : ℕ
  pub after : below ≤ uip
  pub inside : uip < length lits
  pub member : has clause (neg_ℤ (lit_at lits uip)) ≡ true
  pub others : All (λ l. (l ≡ neg_ℤ (lit_at lits uip)) ⊎ (has (take rest lits) (neg_ℤ l) ≡ true)) clause
  pub bound : rest ≤ below
  pub last : (rest ≡ 0) ⊎ ((1 ≤ rest) × (has clause (neg_ℤ (lit_at lits (rest - 1))) ≡ true))

-- unit propagation over the clauses, by these hints, derives the clause
abbrev pub Derives : List (List ℤ) → List ℤ → List ℕ → Type 0
Derives clauses clause hints = follow (numbered 1 clauses) (denied clause) hints ≡ None

-- what is learned from a conflict
pub record IsLearned (clauses : List (List ℤ)) (p : Path) (below : ℕ) (clause : List ℤ) (hints : List ℕ) (rest : ℕ) : Type 0 where
  pub within : All (IsWithin p.vars) clause
  pub not_both : has_both clause ≡ false
  pub derived : Derives clauses clause hints
  pub hinted : All (λ h. h ≤ length clauses) hints
  pub asserting : IsAsserting p.lits below rest clause

-- each marked place before `below` is kept
pub record IsTracked (lits : List ℤ) (below : ℕ) (seen : List Bool) (lower : List ℕ) : Type 0 where
  pub complete : (n : ℕ) → n < below → n < length lits → seen_at seen (lit_at lits n) ≡ true → Contains lower n
  pub sound : All (λ n. n < below) lower
