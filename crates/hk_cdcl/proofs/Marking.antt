-- Marks on variables, and the lowest marked place.
use Rattle.std.proofs.Common.{◌≡◌, ◌≢◌, ◌⊎◌, ℕ, ◌+◌, ◌<◌, ◌≤◌, Bool, true, false, List, [], length, take, set, get_or, ℤ, pos, refl, sym, ◌∙◌, ap, subst, inl, inr, arith}
use Rattle.std.proofs.lemmas.Bool.{cases_lt, cases_eq}
use Rattle.std.proofs.lemmas.List.{get_or-set_same, get_or-set_other, get_or-take, length-take-le}
use Rattle.std.proofs.lemmas.List.Elements.{All-nil, All-more, All-weaker}
use Rattle.std.proofs.Math.ListN.{length-set}
use Rattle.hk_cnf.specs.Literal.{place_of}
use Rattle.hk_cdcl.specs.Path.{lit_at}
use Rattle.hk_cdcl.specs.Analysis.{seen_at, HasVariable, Marks, IsLowestOf}

pub variable-at : (ls : List ℤ) (n : ℕ) → n < length ls → HasVariable ls (place_of (lit_at ls n))
variable-at ls n lt = record { place = n; inside = lt; is = refl }

-- of the first literals, and of one more
variable-more : (ls : List ℤ) (n v : ℕ) → n < length ls → HasVariable (take n ls) v → HasVariable (take (n + 1) ls) v
variable-more ls n v lt h =
    let k : length (take n ls) ≡ n = length-take-le n ls (omega (arith, lt)) in
    let m : length (take (n + 1) ls) ≡ n + 1 = length-take-le (n + 1) ls (omega (arith, lt)) in
    let i : h.place < n = let b : h.place < length (take n ls) = h.inside in omega (arith, b, k) in
    record {
      place = h.place;
      inside = omega (arith, i, m);
      is = ap place_of (get_or-take (n + 1) ls h.place (pos 0) (omega (arith, i)) ∙ sym (get_or-take n ls h.place (pos 0) i)) ∙ h.is;
    }

variable-last : (ls : List ℤ) (n v : ℕ) → n < length ls → place_of (lit_at ls n) ≡ v → HasVariable (take (n + 1) ls) v
variable-last ls n v lt e =
    let m : length (take (n + 1) ls) ≡ n + 1 = length-take-le (n + 1) ls (omega (arith, lt)) in
    record { place = n; inside = omega (arith, m); is = ap place_of (get_or-take (n + 1) ls n (pos 0) (omega arith)) ∙ e }

variable-cases : (ls : List ℤ) (n v : ℕ) → n < length ls → HasVariable (take (n + 1) ls) v → HasVariable (take n ls) v ⊎ (place_of (lit_at ls n) ≡ v)
variable-cases ls n v lt h = pick (cases_lt h.place n)
  where
    k : length (take n ls) ≡ n
    k = length-take-le n ls (omega (arith, lt))

    m : length (take (n + 1) ls) ≡ n + 1
    m = length-take-le (n + 1) ls (omega (arith, lt))

    is : place_of (lit_at ls h.place) ≡ v
    is = let b : h.place < length (take (n + 1) ls) = h.inside in ap place_of (sym (get_or-take (n + 1) ls h.place (pos 0) (omega (arith, b, m)))) ∙ h.is

    pick : (h.place < n) ⊎ (n ≤ h.place) → HasVariable (take n ls) v ⊎ (place_of (lit_at ls n) ≡ v)
    pick (inl b) = inl (record { place = h.place; inside = omega (arith, b, k); is = ap place_of (get_or-take n ls h.place (pos 0) b) ∙ is })
    pick (inr b) = let c : h.place < length (take (n + 1) ls) = h.inside in let e : h.place ≡ n = omega (arith, b, c, m) in inr (ap (λ i. place_of (lit_at ls i)) (sym e) ∙ is)

pub marks-none : (seen : List Bool) (clause : List ℤ) → Marks seen seen (take 0 clause)
marks-none seen clause = record { same = refl; kept = λ v e. e; only = λ v e. inl e; marked = All-nil (λ l. seen_at seen l ≡ true) }

set-kept : (seen : List Bool) (p v : ℕ) → p < length seen → get_or seen v false ≡ true → get_or (set seen p true) v false ≡ true
set-kept seen p v lt e = pick (cases_eq v p)
  where
    pick : (v ≡ p) ⊎ (v ≢ p) → get_or (set seen p true) v false ≡ true
    pick (inl s) = ap (λ i. get_or (set seen p true) i false) s ∙ get_or-set_same seen p true false lt
    pick (inr s) = get_or-set_other seen p v true false s ∙ e

pub set-only : (seen : List Bool) (p v : ℕ) → get_or (set seen p true) v false ≡ true → (get_or seen v false ≡ true) ⊎ (p ≡ v)
set-only seen p v e = pick (cases_eq v p)
  where
    pick : (v ≡ p) ⊎ (v ≢ p) → (get_or seen v false ≡ true) ⊎ (p ≡ v)
    pick (inl s) = inr (sym s)
    pick (inr s) = inl (sym (get_or-set_other seen p v true false s) ∙ e)

pub marks-more : (old seen : List Bool) (clause : List ℤ) (n p : ℕ) → Marks old seen (take n clause) → n < length clause → p ≡ place_of (lit_at clause n) → p < length seen → Marks old (set seen p true) (take (n + 1) clause)
marks-more old seen clause n p h lt e b =
    record {
      same = length-set seen p true ∙ h.same;
      kept = λ v k. set-kept seen p v b (h.kept v k);
      only = λ v k. pick v (set-only seen p v k);
      marked =
          All-more (λ l. seen_at (set seen p true) l ≡ true) clause n (pos 0) lt
          (All-weaker (λ l. seen_at seen l ≡ true) (λ l. seen_at (set seen p true) l ≡ true) (λ l k. set-kept seen p (place_of l) b k) (take n clause) h.marked)
          (ap (λ i. get_or (set seen p true) i false) (sym e) ∙ get_or-set_same seen p true false b);
    }
  where
    old-more : (v : ℕ) → (get_or old v false ≡ true) ⊎ HasVariable (take n clause) v → (get_or old v false ≡ true) ⊎ HasVariable (take (n + 1) clause) v
    old-more v (inl k) = inl k
    old-more v (inr k) = inr (variable-more clause n v lt k)

    pick : (v : ℕ) → (get_or seen v false ≡ true) ⊎ (p ≡ v) → (get_or old v false ≡ true) ⊎ HasVariable (take (n + 1) clause) v
    pick v (inl k) = old-more v (h.only v k)
    pick v (inr k) = inr (variable-last clause n v lt (sym e ∙ k))

pub lowest-none : (lits : List ℤ) (below : ℕ) (clause : List ℤ) (lowest : ℕ) → IsLowestOf lits below (take 0 clause) lowest lowest
lowest-none lits below clause lowest =
    record { bound = omega arith; least = λ n a b h. absurd (none h); found = inl refl }
  where
    none : {v : ℕ} → HasVariable [] v → ⊥
    none h = let b : h.place < 0 = h.inside in omega (arith, b)

-- what the answer for one literal has to say
pub lowest-more : (lits : List ℤ) (below : ℕ) (clause : List ℤ) (n lowest lower place next : ℕ) → IsLowestOf lits below (take n clause) lowest lower → n < length clause → HasVariable lits (place_of (lit_at clause n)) → ((m : ℕ) → m < length lits → place_of (lit_at lits m) ≡ place_of (lit_at clause n) → place ≡ m) → next ≤ lower → (below ≤ place → next ≤ place) → (next ≡ lower) ⊎ ((next ≡ place) × (below ≤ place)) → IsLowestOf lits below (take (n + 1) clause) lowest next
lowest-more lits below clause n lowest lower place next h lt var at less lesser is =
    record {
      bound = let b : lower ≤ lowest = h.bound in omega (arith, b, less);
      least = λ m a b k. pick m a b (variable-cases clause n (place_of (lit_at lits m)) lt k);
      found = choose is;
    }
  where
    pick : (m : ℕ) → below ≤ m → m < length lits → HasVariable (take n clause) (place_of (lit_at lits m)) ⊎ (place_of (lit_at clause n) ≡ place_of (lit_at lits m)) → next ≤ m
    pick m a b (inl k) = let c : lower ≤ m = h.least m a b k in omega (arith, c, less)
    pick m a b (inr k) = let e : place ≡ m = at m b (sym k) in let c : next ≤ place = lesser (omega (arith, a, e)) in omega (arith, c, e)

    here : place ≡ var.place
    here = at var.place var.inside var.is

    carry : (lower ≡ lowest) ⊎ ((below ≤ lower) × (lower < length lits) × HasVariable (take n clause) (place_of (lit_at lits lower))) → next ≡ lower → (next ≡ lowest) ⊎ ((below ≤ next) × (next < length lits) × HasVariable (take (n + 1) clause) (place_of (lit_at lits next)))
    carry (inl e) s = inl (s ∙ e)
    carry (inr k) s =
        inr (let a : below ≤ lower = k.0 in omega (arith, a, s), (let b : lower < length lits = k.1 in omega (arith, b, s)), subst (λ i. HasVariable (take (n + 1) clause) (place_of (lit_at lits i))) (sym s) (variable-more clause n (place_of (lit_at lits lower)) lt k.2))

    choose : (next ≡ lower) ⊎ ((next ≡ place) × (below ≤ place)) → (next ≡ lowest) ⊎ ((below ≤ next) × (next < length lits) × HasVariable (take (n + 1) clause) (place_of (lit_at lits next)))
    choose (inl s) = carry h.found s
    choose (inr (s, k)) =
        let e : next ≡ var.place = s ∙ here in
        let b : var.place < length lits = var.inside in
        inr (omega (arith, s, k), omega (arith, e, b), variable-last clause n (place_of (lit_at lits next)) lt (sym var.is ∙ ap (λ i. place_of (lit_at lits i)) (sym e)))
