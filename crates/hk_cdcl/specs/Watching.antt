-- What watched literals keep: which clauses are looked at when a literal becomes false.
use Rattle.std.specs.Prelude.{◌≡◌, ◌≢◌, ◌⊎◌, ℕ, ◌+◌, ◌*◌, ◌<◌, ◌≤◌, true, false, List, [], ◌∷◌, ◌++◌, length, take, ℤ, pos, neg_ℤ, slice_index_or, slice_index, Bool, ◌-◌}
use Rattle.std.specs.List.{All, AllPairs}
use Rattle.hk_cnf.specs.Literal.{has}
use Rattle.hk_cdcl.specs.declared.watched.Watched.{Watched}
use Rattle.hk_cdcl.specs.declared.watched.Visit.{Visit}
use Rattle.hk_cdcl.specs.declared.watched.Visit.TheVariants.{Stays, Goes, Stops, Wants}
use Rattle.hk_cdcl.specs.declared.watched.Outcome.{Outcome}
use Rattle.hk_cdcl.specs.declared.watched.Outcome.TheVariants.{Quiet, Conflict, Full}
use Rattle.hk_cdcl.specs.Fresh.{AreQuiet}
use Rattle.hk_cdcl.specs.Path.{Path, lit_at}
use Rattle.hk_cdcl.specs.Propagation.{IsConflict}
use Rattle.hk_cdcl.specs.Records.{Pair, pair_at}
use Rattle.hk_cdcl.specs.Watches.{Watch, Plain, watches_of, watch_at, IsSame, with_both}
use Rattle.hk_cdcl.specs.Looking.{IsOther, IsOtherOf}

-- the clause at a place
abbrev pub clause_no : List (List ℤ) → ℕ → List ℤ
clause_no clauses k = slice_index_or clauses k []

-- from a place of the list on a watch names the clause
pub record Lists (ws : List Watch) (from k : ℕ) : Type 0 where
  pub place : ℕ
  pub after : from ≤ place
  pub inside : place < length ws
  pub is : (watch_at ws place).clause ≡ k

-- a watch of the literal l names one of the first `count` clauses, with a literal of it that blocks, and where it says so
-- the clause has no others beside l
pub record IsWatch (clauses : List (List ℤ)) (count : ℕ) (l : ℤ) (w : Watch) : Type 0 where
  pub inside : w.clause < count
  pub member : has (clause_no clauses w.clause) w.blocker ≡ true
  pub binary : w.binary ≡ true → All (λ x. (w.blocker ≡ x) ⊎ (l ≡ x)) (clause_no clauses w.clause)

-- the watched literals are of the clause, and their lists name it
pub record IsPair (clauses : List (List ℤ)) (lists : List (List Watch)) (k : ℕ) (pair : Pair) : Type 0 where
  pub first : has (clause_no clauses k) pair.first ≡ true
  pub second : has (clause_no clauses k) pair.second ≡ true
  pub first_listed : Lists (watches_of lists pair.first) 0 k
  pub second_listed : Lists (watches_of lists pair.second) 0 k

-- the watched literals differ, and neither is false
pub record IsOpen (lits : List ℤ) (pair : Pair) : Type 0 where
  pub apart : pair.first ≢ pair.second
  pub first_left : has lits (neg_ℤ pair.first) ≡ false
  pub second_left : has lits (neg_ℤ pair.second) ≡ false

-- a literal of the clause is true
pub record IsTrueIn (lits : List ℤ) (c : List ℤ) : Type 0 where
  pub literal : ℤ
  pub member : has c literal ≡ true
  pub holds : has lits literal ≡ true

-- by the literals that were looked at the watched literals are open, or by all of them the clause is true
abbrev pub Rests : List ℤ → List ℤ → List ℤ → Pair → Type 0
Rests seen lits c pair = IsOpen seen pair ⊎ IsTrueIn lits c

-- the first clauses are watched, and at each of the ends, lengths of the trail at which nothing was left to do, they rest
pub record AreWatched (clauses : List (List ℤ)) (lists : List (List Watch)) (pairs : List Pair) (ends : List ℕ) (lits : List ℤ) : Type 0 where
  pub count : length pairs ≤ length clauses
  pub watches : (l : ℤ) → l ≢ pos 0 → All (IsWatch clauses (length pairs) l) (watches_of lists l)
  pub paired : (k : ℕ) → k < length pairs → IsPair clauses lists k (pair_at pairs k)
  pub rising : AllPairs (λ d e. d < e) ends
  pub inside : All (λ e. e ≤ length lits) ends
  pub ended : (k : ℕ) → k < length pairs → All (λ e. Rests (take e lits) (take e lits) (clause_no clauses k) (pair_at pairs k)) ends

-- the records have the literals of the first clauses
pub record AreTexts (clauses texts : List (List ℤ)) : Type 0 where
  pub is : texts ≡ take (length texts) clauses

pub record Watching (clauses : List (List ℤ)) (w : Watched) (lits : List ℤ) : Type 0 where
  pub watched : AreWatched clauses w.watches.lists w.watches.pairs w.ends.items lits
  pub texts : AreTexts clauses w.watches.texts

-- the state may serve these clauses, having seen these literals
abbrev pub Fits : Watched → List (List ℤ) → List ℤ → Type 0
Fits w clauses lits = 0 < length w.ends.items → Watching clauses w lits

-- by the literals before `head` the first clauses rest
pub record AreResting (clauses : List (List ℤ)) (pairs : List Pair) (lits : List ℤ) (head : ℕ) : Type 0 where
  pub each : (k : ℕ) → k < length pairs → Rests (take head lits) lits (clause_no clauses k) (pair_at pairs k)

-- the literals before `head` were looked at
pub record Propagating (clauses : List (List ℤ)) (w : Watched) (p : Path) (head : ℕ) : Type 0 where
  pub sized : 2 * p.vars ≤ length w.watches.lists
  pub inside : head ≤ length p.lits
  pub watching : Watching clauses w p.lits
  pub resting : AreResting clauses w.watches.pairs p.lits head

-- behind `head` a clause rests, or the watches of l from a place on name it
pub record AreLater (clauses : List (List ℤ)) (lists : List (List Watch)) (pairs : List Pair) (lits : List ℤ) (head : ℕ) (l : ℤ) (from : ℕ) : Type 0 where
  pub each : (k : ℕ) → k < length pairs → Rests (take (head + 1) lits) lits (clause_no clauses k) (pair_at pairs k) ⊎ Lists (watches_of lists l) from k

-- the literal at `head` makes l false
pub record IsAtHead (lits : List ℤ) (head : ℕ) (l : ℤ) : Type 0 where
  pub inside : head < length lits
  pub is : lit_at lits head ≡ neg_ℤ l
  pub nonzero : l ≢ pos 0

-- the literal at `head` is looked at, which makes l false: the watches of l before a place are done with
pub record Turning (clauses : List (List ℤ)) (w : Watched) (p : Path) (head : ℕ) (l : ℤ) (from : ℕ) : Type 0 where
  pub propagating : Propagating clauses w p head
  pub at : IsAtHead p.lits head l
  pub later : AreLater clauses w.watches.lists w.watches.pairs p.lits head l from

-- what a look at a watch came to
abbrev pub Visited : List (List ℤ) → Watched → Path → ℕ → ℤ → ℕ → Visit → Type 0
Visited clauses w p head l from Stays = Turning clauses w p head l (from + 1)
Visited clauses w p head l from Goes = Turning clauses w p head l from
Visited clauses w p head l from (Stops k) = Watching clauses w p.lits × IsConflict clauses p.lits k
Visited clauses w p head l from Wants = Unit {0}

-- the clause at the place is true, or false
abbrev pub Settled : List (List ℤ) → List ℤ → ℕ → Visit → Type 0
Settled clauses lits place Stays = IsTrueIn lits (clause_no clauses place)
Settled clauses lits place Goes = ⊥
Settled clauses lits place (Stops k) = (k ≡ place) × IsConflict clauses lits place
Settled clauses lits place Wants = ⊥

-- the literal's watches from the place on are fewer
abbrev pub Fewer : List (List Watch) → List (List Watch) → ℤ → Visit → Type 0
Fewer old new l Stays = length (watches_of new l) ≡ length (watches_of old l)
Fewer old new l Goes = length (watches_of new l) + 1 ≡ length (watches_of old l)
Fewer old new l (Stops k) = Unit {0}
Fewer old new l Wants = Unit {0}

-- what looking at some literals, or at clauses that came, came to
abbrev pub Came : List (List ℤ) → Watched → Path → ℕ → Outcome → Type 0
Came clauses w p head Quiet = Propagating clauses w p head
Came clauses w p head (Conflict k) = Watching clauses w p.lits × IsConflict clauses p.lits k
Came clauses w p head Full = Unit {0}

-- a literal of the clause that is not false
pub record IsLeft (lits : List ℤ) (c : List ℤ) (l : ℤ) : Type 0 where
  pub member : has c l ≡ true
  pub left : has lits (neg_ℤ l) ≡ false

-- what a move needs: next is another literal of the clause of the n-th watch of l that is not false
pub record Moves (clauses : List (List ℤ)) (lists : List (List Watch)) (pairs : List Pair) (lits : List ℤ) (l : ℤ) (n k : ℕ) (next other : ℤ) (w : Watch) : Type 0 where
  pub place : n < length (watches_of lists l)
  pub clause : (watch_at (watches_of lists l) n).clause ≡ k
  pub inside : k < length pairs
  pub pair : IsOtherOf (pair_at pairs k) l other
  pub found : IsOther lits (clause_no clauses k) other next
  pub nonzero : next ≢ pos 0
  pub apart : next ≢ l
  pub is_clause : w.clause ≡ k
  pub is_blocker : w.blocker ≡ other
  pub is_long : w.binary ≡ false

-- another literal of the clause than k
pub record IsBeside (c : List ℤ) (k l : ℤ) : Type 0 where
  pub member : has c l ≡ true
  pub other : k ≢ l

-- only so many of the first are left
pub record IsFront (old new : List ℕ) : Type 0 where
  pub count : ℕ
  pub is : new ≡ take count old

-- the clause rests at each of these ends
pub record IsEnded (ends : List ℕ) (lits c : List ℤ) (pair : Pair) : Type 0 where
  pub each : All (λ e. Rests (take e lits) (take e lits) c pair) ends

-- the next clause came under watch by two of its literals
pub record IsAttached (c : List ℤ) (old new : Plain) (first second : ℤ) : Type 0 where
  pub binary : Bool
  pub only : binary ≡ true → All (λ x. (second ≡ x) ⊎ (first ≡ x)) c
  pub lists : new.lists ≡ with_both old.lists first second (length old.pairs) binary
  pub pairs : new.pairs ≡ old.pairs ++ (record { first = first; second = second }) ∷ []
  pub texts : new.texts ≡ old.texts ++ c ∷ []
  pub count : length old.texts ≡ length old.pairs

-- an end came, where the trail grew since the last one
abbrev pub EndsMore : List ℕ → List ℕ → ℕ → Type 0
EndsMore old new n = (new ≡ old) ⊎ ((new ≡ old ++ n ∷ []) × ((0 < length old) → slice_index old (length old - 1) < n))

-- what the state came to before the first literal is looked at
pub record Begins (clauses : List (List ℤ)) (w : Watched) (lits : List ℤ) (start : ℕ) : Type 0 where
  pub inside : start ≤ length lits
  pub watching : Watching clauses w lits
  pub resting : AreResting clauses w.watches.pairs lits start

-- where nothing is left to do
abbrev pub IfQuiet : Outcome → Type 0 → Type 0
IfQuiet Quiet P = P
IfQuiet (Conflict k) P = Unit {0}
IfQuiet Full P = Unit {0}

-- what unit propagation came to
abbrev pub Propagated : List (List ℤ) → Watched → List ℤ → Outcome → Type 0
Propagated clauses w lits Quiet = Watching clauses w lits × AreQuiet (has lits) clauses
Propagated clauses w lits (Conflict k) = Watching clauses w lits × IsConflict clauses lits k
Propagated clauses w lits Full = Unit {0}

-- nothing changed but the room, and empty lists that came
pub record HasRoom (old new : Watched) : Type 0 where
  pub watches : IsSame old.watches.lists new.watches.lists
  pub pairs : new.watches.pairs ≡ old.watches.pairs
  pub texts : new.watches.texts ≡ old.watches.texts
  pub ends : new.ends.items ≡ old.ends.items
