-- Resolving marked literals with their reasons.
use Rattle.std.proofs.Common.{◌≡◌, ◌≢◌, ◌⊎◌, ℕ, ◌+◌, ◌<◌, ◌≤◌, Bool, true, false, List, length, take, get_or, ℤ, pos, neg_ℤ, refl, sym, ◌∙◌, ap, subst, inl, inr, arith}
use Rattle.std.proofs.lemmas.Bool.{cases_eq, false≢true}
use Rattle.std.proofs.lemmas.List.Elements.{All-weaker}
use Rattle.std.specs.List.{All}
use Rattle.hk_cnf.specs.declared.hint.Hint.TheVariants.{Unit as OneLeft}
use Rattle.hk_cnf.specs.Literal.{place_of, has}
use Rattle.hk_cnf.specs.Hint.{Single}
use Rattle.hk_cnf.proofs.Tells.{tells-at}
use Rattle.hk_cdcl.specs.Path.{Path, AreApart, IsReason, lit_at, clause_at}
use Rattle.hk_cdcl.specs.Analysis.{seen_at, AreSeen, HasVariable, Marks, IsLowestOf, IsLowest, Resolved, Closed}
use Rattle.hk_cdcl.proofs.Places.{has-place, at-take, place_of-neg, apart-at}

pub reason-single : (clauses : List (List ℤ)) (lits : List ℤ) (n id : ℕ) → IsReason clauses lits n id → Single (has (take n lits)) (lit_at lits n) (clause_at clauses id)
reason-single clauses lits n id r = tells-at (has (take n lits)) (clause_at clauses id) (OneLeft (lit_at lits n)) r.unit

-- a literal that is false by the first ones has its variable at one of their places
pub false-at : (lits : List ℤ) (n : ℕ) (x : ℤ) → n ≤ length lits → has (take n lits) (neg_ℤ x) ≡ true → (m : ℕ) × (m < n) × (lit_at lits m ≡ neg_ℤ x) × (place_of (lit_at lits m) ≡ place_of x)
false-at lits n x le h =
    let a : (m : ℕ) × (m < n) × (lit_at lits m ≡ neg_ℤ x) = at-take lits n (neg_ℤ x) le (has-place (take n lits) (neg_ℤ x) h) in
    (a.0, a.1, a.2, ap place_of a.2 ∙ place_of-neg x)

-- the variables of a reason's literals are set
pub reason-set : (clauses : List (List ℤ)) (lits : List ℤ) (n id : ℕ) → IsReason clauses lits n id → n < length lits → All (λ l. HasVariable lits (place_of l)) (clause_at clauses id)
reason-set clauses lits n id r lt = All-weaker (λ x. (lit_at lits n ≡ x) ⊎ (has (take n lits) (neg_ℤ x) ≡ true)) (λ l. HasVariable lits (place_of l)) pick (clause_at clauses id) (reason-single clauses lits n id r).others
  where
    pick : (x : ℤ) → (lit_at lits n ≡ x) ⊎ (has (take n lits) (neg_ℤ x) ≡ true) → HasVariable lits (place_of x)
    pick x (inl e) = record { place = n; inside = lt; is = ap place_of e }
    pick x (inr h) =
        let a : (m : ℕ) × (m < n) × (lit_at lits m ≡ neg_ℤ x) × (place_of (lit_at lits m) ≡ place_of x) = false-at lits n x (omega (arith, lt)) h in
        let b : a.0 < n = a.1 in
        record { place = a.0; inside = omega (arith, b, lt); is = a.3 }

-- and they are set no later than its own
pub reason-earlier : (clauses : List (List ℤ)) (lits : List ℤ) (n id m : ℕ) → AreApart lits → IsReason clauses lits n id → n < length lits → m < length lits → HasVariable (clause_at clauses id) (place_of (lit_at lits m)) → m ≤ n
reason-earlier clauses lits n id m apart r lt b v = pick ((reason-single clauses lits n id r).others v.place (pos 0) v.inside)
  where
    pick : (lit_at lits n ≡ lit_at (clause_at clauses id) v.place) ⊎ (has (take n lits) (neg_ℤ (lit_at (clause_at clauses id) v.place)) ≡ true) → m ≤ n
    pick (inl e) = let s : n ≡ m = apart-at lits n m apart lt b (ap place_of e ∙ v.is) in omega (arith, s)
    pick (inr h) =
        let a : (k : ℕ) × (k < n) × (lit_at lits k ≡ neg_ℤ (lit_at (clause_at clauses id) v.place)) × (place_of (lit_at lits k) ≡ place_of (lit_at (clause_at clauses id) v.place)) = false-at lits n (lit_at (clause_at clauses id) v.place) (omega (arith, lt)) h in
        let k : a.0 < n = a.1 in
        let s : a.0 ≡ m = apart-at lits a.0 m apart (omega (arith, k, lt)) b (a.3 ∙ v.is) in
        omega (arith, s, k)

pub resolved-unseen : (clauses : List (List ℤ)) (p : Path) (seen : List Bool) (n : ℕ) → seen_at seen (lit_at p.lits n) ≡ false → Resolved clauses p seen seen n
resolved-unseen clauses p seen n e =
    record { same = refl; kept = λ v k. k; earlier = λ m a b k. k; closed = λ k. absurd (false≢true (sym e ∙ k)) }

pub resolved-marks : (clauses : List (List ℤ)) (p : Path) (old new : List Bool) (n : ℕ) → AreApart p.lits → IsReason clauses p.lits n (get_or p.reasons n 0) → n < length p.lits → seen_at old (lit_at p.lits n) ≡ true → Marks old new (clause_at clauses (get_or p.reasons n 0)) → Resolved clauses p old new n
resolved-marks clauses p old new n apart r lt s h =
    record { same = h.same; kept = h.kept; earlier = λ m a b k. pick m a b (h.only (place_of (lit_at p.lits m)) k); closed = λ k. h.marked }
  where
    pick : (m : ℕ) → n ≤ m → m < length p.lits → (seen_at old (lit_at p.lits m) ≡ true) ⊎ HasVariable (clause_at clauses (get_or p.reasons n 0)) (place_of (lit_at p.lits m)) → seen_at old (lit_at p.lits m) ≡ true
    pick m a b (inl k) = k
    pick m a b (inr v) =
        let le : m ≤ n = reason-earlier clauses p.lits n (get_or p.reasons n 0) m apart r lt b v in
        let e : n ≡ m = omega (arith, a, le) in
        subst (λ i. seen_at old (lit_at p.lits i) ≡ true) e s

-- a marked variable of a clause
pub marked-variable : (seen : List Bool) (clause : List ℤ) (v : ℕ) → AreSeen seen clause → HasVariable clause v → get_or seen v false ≡ true
marked-variable seen clause v h k = ap (λ i. get_or seen i false) (sym k.is) ∙ h k.place (pos 0) k.inside

pub lowest-marks : (lits : List ℤ) (below : ℕ) (old new : List Bool) (clause : List ℤ) (lowest lower : ℕ) → IsLowest lits below old lowest → Marks old new clause → IsLowestOf lits below clause lowest lower → IsLowest lits below new lower
lowest-marks lits below old new clause lowest lower h m l = pick l.found
  where
    least : (n : ℕ) → below ≤ n → n < length lits → seen_at new (lit_at lits n) ≡ true → lower ≤ n
    least n a b k = choose (m.only (place_of (lit_at lits n)) k)
      where
        choose : (seen_at old (lit_at lits n) ≡ true) ⊎ HasVariable clause (place_of (lit_at lits n)) → lower ≤ n
        choose (inl s) = let c : lowest ≤ n = h.least n a b s in let d : lower ≤ lowest = l.bound in omega (arith, c, d)
        choose (inr v) = l.least n a b v

    pick : (lower ≡ lowest) ⊎ ((below ≤ lower) × (lower < length lits) × HasVariable clause (place_of (lit_at lits lower))) → IsLowest lits below new lower
    pick (inl e) =
        record {
          least = least;
          after = let a : below ≤ lowest = h.after in omega (arith, a, e);
          inside = let a : lowest < length lits = h.inside in omega (arith, a, e);
          marked = subst (λ i. seen_at new (lit_at lits i) ≡ true) (sym e) (m.kept (place_of (lit_at lits lowest)) h.marked);
        }
    pick (inr k) = record { least = least; after = k.0; inside = k.1; marked = marked-variable new clause (place_of (lit_at lits lower)) m.marked k.2 }

pub closed-none : (clauses : List (List ℤ)) (p : Path) (seen : List Bool) (n : ℕ) → Closed clauses p seen seen n n
closed-none clauses p seen n =
    record { same = refl; kept = λ v k. k; earlier = λ m a b k. k; closed = λ m a b k. absurd (omega (arith, a, b)) }

pub seen-more : (old new : List Bool) (clause : List ℤ) → ((v : ℕ) → get_or old v false ≡ true → get_or new v false ≡ true) → AreSeen old clause → AreSeen new clause
seen-more old new clause more h = All-weaker (λ l. seen_at old l ≡ true) (λ l. seen_at new l ≡ true) (λ l k. more (place_of l) k) clause h

-- one place more, towards the front
pub closed-more : (clauses : List (List ℤ)) (p : Path) (old mid new : List Bool) (n to : ℕ) → Closed clauses p old mid (n + 1) to → Resolved clauses p mid new n → n < to → to ≤ length p.lits → Closed clauses p old new n to
closed-more clauses p old mid new n to h r lt le =
    record {
      same = r.same ∙ h.same;
      kept = λ v k. r.kept v (h.kept v k);
      earlier = λ m a b k. h.earlier m a b (r.earlier m (omega (arith, lt, a)) b k);
      closed = λ m a b k. pick m a b k (cases_eq m n);
    }
  where
    pick : (m : ℕ) → n ≤ m → m < to → seen_at new (lit_at p.lits m) ≡ true → (m ≡ n) ⊎ (m ≢ n) → AreSeen new (clause_at clauses (get_or p.reasons m 0))
    pick m a b k (inl e) = subst (λ i. AreSeen new (clause_at clauses (get_or p.reasons i 0))) (sym e) (r.closed (subst (λ i. seen_at new (lit_at p.lits i) ≡ true) e k))
    pick m a b k (inr d) =
        seen-more mid new (clause_at clauses (get_or p.reasons m 0)) r.kept
        (h.closed m (omega (arith, a, d)) b (r.earlier m a (omega (arith, b, le)) k))
