-- What the marks of a conflict come to.
use Rattle.std.proofs.Common.{◌≡◌, ◌≢◌, ◌⊎◌, ℕ, ◌+◌, ◌<◌, ◌≤◌, Bool, true, false, eqb, List, [], length, take, get_or, ℤ, neg_ℤ, sym, ◌∙◌, ap, subst, inl, inr, arith}
use Rattle.std.proofs.lemmas.Bool.{cases_lt, cases_Bool, cond-true, cond-false, eq-eqb, false≢true}
use Rattle.std.proofs.lemmas.List.{get_or_past}
use Rattle.std.proofs.lemmas.List.Elements.{All-weaker}
use Rattle.std.specs.List.{All, list_all}
use Rattle.hk_cnf.specs.declared.hint.Hint.TheVariants.{False, Other}
use Rattle.hk_cnf.specs.Literal.{place_of, has}
use Rattle.hk_cnf.specs.Hint.{Several}
use Rattle.hk_cnf.proofs.Members.{all-has}
use Rattle.hk_cnf.proofs.Tells.{tells-at}
use Rattle.hk_cdcl.specs.Fresh.{AreQuiet}
use Rattle.hk_cdcl.specs.Path.{Path, IsReason, AreReasons, lit_at, clause_at}
use Rattle.hk_cdcl.specs.Propagation.{IsConflict}
use Rattle.hk_cdcl.specs.Analysis.{seen_at, AreSeen, HasVariable, Marks, IsLowestOf, IsLowest, Closed, IsResolved, IsTraced, is_redundant, AreNamed}
use Rattle.hk_cdcl.proofs.Places.{has-place, has-take, At, place_of-neg}
use Rattle.hk_cdcl.proofs.Resolving.{seen-more, marked-variable, reason-single}
use Rattle.hk_lrat.proofs.Sound.{all-pass}

-- the literals of a false clause are false by the trail
pub conflict-false : (clauses : List (List ℤ)) (lits : List ℤ) (n : ℕ) → IsConflict clauses lits n → All (λ x. has lits (neg_ℤ x) ≡ true) (get_or clauses n [])
conflict-false clauses lits n h = tells-at (has lits) (get_or clauses n []) False h.falsified

false-place : (lits : List ℤ) (x : ℤ) → has lits (neg_ℤ x) ≡ true → (m : ℕ) × (m < length lits) × (lit_at lits m ≡ neg_ℤ x) × (place_of (lit_at lits m) ≡ place_of x)
false-place lits x h = let a : At lits (neg_ℤ x) = has-place lits (neg_ℤ x) h in (a.place, a.inside, a.is, ap place_of a.is ∙ place_of-neg x)

-- so their variables are set
pub conflict-set : (clauses : List (List ℤ)) (lits : List ℤ) (n : ℕ) → IsConflict clauses lits n → All (λ l. HasVariable lits (place_of l)) (get_or clauses n [])
conflict-set clauses lits n h =
    All-weaker (λ x. has lits (neg_ℤ x) ≡ true) (λ l. HasVariable lits (place_of l))
    (λ x k. let a : (m : ℕ) × (m < length lits) × (lit_at lits m ≡ neg_ℤ x) × (place_of (lit_at lits m) ≡ place_of x) = false-place lits x k in record { place = a.0; inside = a.1; is = a.3 })
    (get_or clauses n []) (conflict-false clauses lits n h)

-- a member of a clause has its variable
member-variable : (clause : List ℤ) (x : ℤ) → has clause x ≡ true → HasVariable clause (place_of x)
member-variable clause x h = let a : At clause x = has-place clause x h in record { place = a.place; inside = a.inside; is = ap place_of a.is }

-- a clause that is false on the trail, and was not at the last decision, has a literal of the conflict's level
pub lowest-conflict : (clauses : List (List ℤ)) (lits : List ℤ) (below : ℕ) (old new : List Bool) (n lowest : ℕ) → IsConflict clauses lits n → AreQuiet (has (take below lits)) clauses → below ≤ length lits → All (λ b. b ≡ false) old → Marks old new (get_or clauses n []) → IsLowestOf lits below (get_or clauses n []) (length lits) lowest → IsLowest lits below new lowest
lowest-conflict clauses lits below old new n lowest h quiet le none m l = pick l.found
  where
    clause : List ℤ
    clause = get_or clauses n []

    unmarked : (v : ℕ) → get_or old v false ≡ true → ⊥
    unmarked v e = choose (cases_lt v (length old))
      where
        choose : (v < length old) ⊎ (length old ≤ v) → ⊥
        choose (inl lt) = false≢true (sym (none v false lt) ∙ e)
        choose (inr ge) = false≢true (sym (get_or_past old v false ge) ∙ e)

    least : (k : ℕ) → below ≤ k → k < length lits → seen_at new (lit_at lits k) ≡ true → lowest ≤ k
    least k a b s = choose (m.only (place_of (lit_at lits k)) s)
      where
        choose : (seen_at old (lit_at lits k) ≡ true) ⊎ HasVariable (get_or clauses n []) (place_of (lit_at lits k)) → lowest ≤ k
        choose (inl e) = absurd (unmarked (place_of (lit_at lits k)) e)
        choose (inr v) = l.least k a b v

    several : Several (has (take below lits)) (get_or clauses n [])
    several = tells-at (has (take below lits)) (get_or clauses n []) Other (quiet n [] h.inside)

    inside : lowest < length lits
    inside =
        let e : has lits (neg_ℤ several.one) ≡ true = all-has (λ x. has lits (neg_ℤ x) ≡ true) (get_or clauses n []) several.one (conflict-false clauses lits n h) several.one_member in
        let a : (k : ℕ) × (k < length lits) × (lit_at lits k ≡ neg_ℤ several.one) × (place_of (lit_at lits k) ≡ place_of several.one) = false-place lits several.one e in
        choose a (cases_lt a.0 below)
      where
        choose : (a : (k : ℕ) × (k < length lits) × (lit_at lits k ≡ neg_ℤ several.one) × (place_of (lit_at lits k) ≡ place_of several.one)) → (a.0 < below) ⊎ (below ≤ a.0) → lowest < length lits
        choose a (inl lt) = absurd (false≢true (sym several.one_left ∙ has-take lits below a.0 (neg_ℤ several.one) lt a.1 a.2 le))
        choose a (inr ge) =
            let c : lowest ≤ a.0 = l.least a.0 ge a.1 (subst (HasVariable (get_or clauses n [])) (sym a.3) (member-variable (get_or clauses n []) several.one several.one_member)) in
            let b : a.0 < length lits = a.1 in
            omega (arith, b, c)

    pick : (lowest ≡ length lits) ⊎ ((below ≤ lowest) × (lowest < length lits) × HasVariable (get_or clauses n []) (place_of (lit_at lits lowest))) → IsLowest lits below new lowest
    pick (inl e) = absurd (omega (arith, e, inside))
    pick (inr k) = record { least = least; after = k.0; inside = k.1; marked = marked-variable new (get_or clauses n []) (place_of (lit_at lits lowest)) m.marked k.2 }

pub traced : (clauses : List (List ℤ)) (p : Path) (first new : List Bool) (below uip conflict : ℕ) → AreSeen first (get_or clauses conflict []) → IsLowest p.lits below new uip → Closed clauses p first new (uip + 1) (length p.lits) → AreReasons clauses p (below + 1) (length p.lits) → IsTraced clauses p new (λ n. false) below uip conflict
traced clauses p first new below uip conflict s h a l =
    record {
      conflict_seen = seen-more first new (get_or clauses conflict []) a.kept s;
      reason = λ n lt r k. reason n lt r k;
      reason_seen = λ n lt r k. seen n lt r k;
    }
  where
    later : (n : ℕ) → n < length p.lits → below ≤ n → n ≢ uip → seen_at new (lit_at p.lits n) ≡ true → uip < n
    later n lt le_n d k = let c : uip ≤ n = h.least n le_n lt k in omega (arith, c, d)

    reason : (n : ℕ) → n < length p.lits → IsResolved (λ m. false) below uip n → seen_at new (lit_at p.lits n) ≡ true → IsReason clauses p.lits n (get_or p.reasons n 0)
    reason n lt (inl (e, z)) k = absurd (false≢true e)
    reason n lt (inr (b_n, d)) k =
        let c : uip < n = later n lt b_n d k in
        let e : below ≤ uip = h.after in
        l.each n (omega (arith, c, e)) lt

    seen : (n : ℕ) → n < length p.lits → IsResolved (λ m. false) below uip n → seen_at new (lit_at p.lits n) ≡ true → AreSeen new (clause_at clauses (get_or p.reasons n 0))
    seen n lt (inl (e, z)) k = absurd (false≢true e)
    seen n lt (inr (b_n, d)) k =
        let c : uip < n = later n lt b_n d k in
        a.closed n (omega (arith, c)) lt k

pub traced-zero : (clauses : List (List ℤ)) (p : Path) (first new : List Bool) (conflict : ℕ) → AreSeen first (get_or clauses conflict []) → Closed clauses p first new 0 (length p.lits) → AreReasons clauses p 0 (length p.lits) → IsTraced clauses p new (λ n. true) (length p.lits) (length p.lits) conflict
traced-zero clauses p first new conflict s b f =
    record {
      conflict_seen = seen-more first new (get_or clauses conflict []) b.kept s;
      reason = λ n lt r k. f.each n (omega arith) lt;
      reason_seen = λ n lt r k. b.closed n (omega arith) lt k;
    }

-- a place that is dropped has a reason, whose literals are all marked, and so is its own
pub redundant-parts : (clauses : List (List ℤ)) (p : Path) (seen : List Bool) (n : ℕ) → AreNamed clauses p → n < length p.lits → is_redundant clauses p seen n ≡ true → IsReason clauses p.lits n (get_or p.reasons n 0) × AreSeen seen (clause_at clauses (get_or p.reasons n 0)) × (seen_at seen (lit_at p.lits n) ≡ true)
redundant-parts clauses p seen n h lt e = pick (cases_Bool (eqb (get_or p.reasons n 0) 0))
  where
    marks : list_all (seen_at seen) (clause_at clauses (get_or p.reasons n 0)) ≡ true → AreSeen seen (clause_at clauses (get_or p.reasons n 0))
    marks m = all-pass (seen_at seen) (clause_at clauses (get_or p.reasons n 0)) m

    named : eqb (get_or p.reasons n 0) 0 ≡ false → (get_or p.reasons n 0 ≡ 0) ⊎ IsReason clauses p.lits n (get_or p.reasons n 0) → IsReason clauses p.lits n (get_or p.reasons n 0)
    named f (inl z) = absurd (false≢true (sym f ∙ eq-eqb (get_or p.reasons n 0) 0 z))
    named f (inr r) = r

    pick : (eqb (get_or p.reasons n 0) 0 ≡ true) ⊎ (eqb (get_or p.reasons n 0) 0 ≡ false) → IsReason clauses p.lits n (get_or p.reasons n 0) × AreSeen seen (clause_at clauses (get_or p.reasons n 0)) × (seen_at seen (lit_at p.lits n) ≡ true)
    pick (inl z) = absurd (false≢true (sym (cond-true (eqb (get_or p.reasons n 0) 0) false (list_all (seen_at seen) (clause_at clauses (get_or p.reasons n 0))) z) ∙ e))
    pick (inr z) =
        let r : IsReason clauses p.lits n (get_or p.reasons n 0) = named z (h.each n lt) in
        let m : AreSeen seen (clause_at clauses (get_or p.reasons n 0)) = marks (sym (cond-false (eqb (get_or p.reasons n 0) 0) false (list_all (seen_at seen) (clause_at clauses (get_or p.reasons n 0))) z) ∙ e) in
        (r, m, all-has (λ l. seen_at seen l ≡ true) (clause_at clauses (get_or p.reasons n 0)) (lit_at p.lits n) m (reason-single clauses p.lits n (get_or p.reasons n 0) r).member)
