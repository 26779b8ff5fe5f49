-- Writing the learned clause and its hints, place by place.
use Rattle.std.proofs.Common.{◌≡◌, ◌≢◌, ◌⊎◌, ℕ, ◌+◌, ◌-◌, ◌<◌, ◌≤◌, Bool, true, false, List, [], ◌∷◌, ◌++◌, length, take, get_or, ℤ, neg_ℤ, refl, sym, ◌∙◌, ap, subst, inl, inr, arith}
use Rattle.std.specs.Prelude.{IsPermutation}
use Rattle.std.proofs.lemmas.Bool.{cases_lt}
use Rattle.std.proofs.lemmas.List.Elements.{All-push, All-weaker, All-nil, All-more, All-contains, Contains-append_left, Contains-push}
use Rattle.std.proofs.lemmas.List.Sorted.{All-permutation, Contains-permutation}
use Rattle.std.proofs.lemmas.List.{take_all}
use Rattle.std.specs.List.{All, Contains}
use Rattle.hk_cnf.specs.Literal.{has}
use Rattle.hk_cnf.proofs.Members.{has-left, has-push}
use Rattle.hk_lrat.specs.Log.{numbered}
use Rattle.hk_cdcl.specs.Path.{Path, AreApart, IsReason, lit_at, clause_at}
use Rattle.hk_cdcl.specs.Analysis.{seen_at, AreSeen, IsLowest, IsTraced, AreNegations, AreNamed, is_redundant, IsTracked}
use Rattle.hk_cdcl.specs.Propagation.{IsConflict}
use Rattle.hk_cdcl.specs.Learning.{KeptAt, SortedAt, IsBefore, IsSorted, Gathered, Collected, HintAt, IsHinted, IsDerivable, Leads}
use Rattle.hk_cdcl.proofs.Places.{neg-neg, place_of-neg}
use Rattle.hk_cdcl.proofs.Tracing.{redundant-parts}
use Rattle.hk_cdcl.proofs.Leading.{leads-same, resolved-denied}
use Rattle.hk_cdcl.proofs.Asserting.{negations-of}
use Rattle.hk_cdcl.proofs.Dropping.{leads-hinted}

before-more : (lits : List ℤ) (drops : ℕ → Bool) (rest end : ℕ) (u l : ℤ) → rest ≤ end → (l ≡ u) ⊎ IsBefore lits drops rest l → (l ≡ u) ⊎ IsBefore lits drops end l
before-more lits drops rest end u l le (inl e) = inl e
before-more lits drops rest end u l le (inr b) = inr (record { place = b.place; kept = b.kept; before = let k : b.place < rest = b.before in omega (arith, k, le); is = b.is })

pub gathered-none : (lits : List ℤ) (drops : ℕ → Bool) (below uip : ℕ) → Gathered lits drops (take 0 []) below uip (neg_ℤ (lit_at lits uip) ∷ []) [] 0
gathered-none lits drops below uip =
    record {
      asserted = has-push [] (neg_ℤ (lit_at lits uip));
      sound = All-push (λ l. (l ≡ neg_ℤ (lit_at lits uip)) ⊎ IsBefore lits drops 0 l) [] (neg_ℤ (lit_at lits uip)) (All-nil (λ l. (l ≡ neg_ℤ (lit_at lits uip)) ⊎ IsBefore lits drops 0 l)) (inl refl);
      complete = All-nil (IsSorted lits drops (neg_ℤ (lit_at lits uip) ∷ []) []);
      low = All-nil (λ n. (drops n ≡ true) × (n < below));
      bound = omega arith;
      last = inl refl;
    }

-- one literal more
gathered-kept : (lits : List ℤ) (drops : ℕ → Bool) (places : List ℕ) (i n below uip : ℕ) (old new : List ℤ) (dropped : List ℕ) (rest end : ℕ) → Gathered lits drops (take i places) below uip old dropped rest → i < length places → n ≡ get_or places i 0 → n < below → drops n ≡ false → KeptAt (neg_ℤ (lit_at lits n)) n old new rest end → Gathered lits drops (take (i + 1) places) below uip new dropped end
gathered-kept lits drops places i n below uip old new dropped rest end h lt is low d k =
    subst (λ c. Gathered lits drops (take (i + 1) places) below uip c dropped end) (sym k.0) (record {
      asserted = has-left old (neg_ℤ (lit_at lits n) ∷ []) (neg_ℤ (lit_at lits uip)) h.asserted;
      sound =
          All-push (λ l. (l ≡ neg_ℤ (lit_at lits uip)) ⊎ IsBefore lits drops end l) old (neg_ℤ (lit_at lits n))
          (All-weaker (λ l. (l ≡ neg_ℤ (lit_at lits uip)) ⊎ IsBefore lits drops rest l) (λ l. (l ≡ neg_ℤ (lit_at lits uip)) ⊎ IsBefore lits drops end l)
          (λ l b. before-more lits drops rest end (neg_ℤ (lit_at lits uip)) l longer b) old h.sound)
          (inr (record { place = n; kept = d; before = under; is = sym (neg-neg (lit_at lits n)) }));
      complete = All-more (IsSorted lits drops (old ++ neg_ℤ (lit_at lits n) ∷ []) dropped) places i 0 lt
          (All-weaker (IsSorted lits drops old dropped) (IsSorted lits drops (old ++ neg_ℤ (lit_at lits n) ∷ []) dropped) (λ m e. more m e) (take i places) h.complete)
          (subst (IsSorted lits drops (old ++ neg_ℤ (lit_at lits n) ∷ []) dropped) is (inr (has-push old (neg_ℤ (lit_at lits n)))));
      low = h.low;
      bound = bound k.1;
      last = last k.1;
    })
  where
    more : (m : ℕ) → IsSorted lits drops old dropped m → IsSorted lits drops (old ++ neg_ℤ (lit_at lits n) ∷ []) dropped m
    more m (inl c) = inl c
    more m (inr e) = inr (has-left old (neg_ℤ (lit_at lits n) ∷ []) (neg_ℤ (lit_at lits m)) e)

    longer-of : ((end ≡ rest) × (n < rest)) ⊎ ((end ≡ n + 1) × (rest ≤ n)) → (rest ≤ end) × (n < end)
    longer-of (inl (e, a)) = (omega (arith, e), omega (arith, e, a))
    longer-of (inr (e, a)) = (omega (arith, e, a), omega (arith, e))

    longer : rest ≤ end
    longer = (longer-of k.1).0

    under : n < end
    under = (longer-of k.1).1

    bound : ((end ≡ rest) × (n < rest)) ⊎ ((end ≡ n + 1) × (rest ≤ n)) → end ≤ below
    bound (inl (e, a)) = let r : rest ≤ below = h.bound in omega (arith, r, e)
    bound (inr (e, a)) = omega (arith, e, low)

    grown : (rest ≡ 0) ⊎ ((1 ≤ rest) × (has old (neg_ℤ (lit_at lits (rest - 1))) ≡ true)) → (rest ≡ 0) ⊎ ((1 ≤ rest) × (has (old ++ neg_ℤ (lit_at lits n) ∷ []) (neg_ℤ (lit_at lits (rest - 1))) ≡ true))
    grown (inl e) = inl e
    grown (inr (a, b)) = inr (a, has-left old (neg_ℤ (lit_at lits n) ∷ []) (neg_ℤ (lit_at lits (rest - 1))) b)

    last : ((end ≡ rest) × (n < rest)) ⊎ ((end ≡ n + 1) × (rest ≤ n)) → (end ≡ 0) ⊎ ((1 ≤ end) × (has (old ++ neg_ℤ (lit_at lits n) ∷ []) (neg_ℤ (lit_at lits (end - 1))) ≡ true))
    last (inl (e, a)) = subst (λ i. (i ≡ 0) ⊎ ((1 ≤ i) × (has (old ++ neg_ℤ (lit_at lits n) ∷ []) (neg_ℤ (lit_at lits (i - 1))) ≡ true))) (sym e) (grown h.last)
    last (inr (e, a)) = let b : end - 1 ≡ n = omega (arith, e) in inr (omega (arith, e), ap (λ i. has (old ++ neg_ℤ (lit_at lits n) ∷ []) (neg_ℤ (lit_at lits i))) b ∙ has-push old (neg_ℤ (lit_at lits n)))

-- a place more is dropped
gathered-dropped : (lits : List ℤ) (drops : ℕ → Bool) (places : List ℕ) (i n below uip : ℕ) (clause : List ℤ) (was dropped : List ℕ) (rest : ℕ) → Gathered lits drops (take i places) below uip clause was rest → i < length places → n ≡ get_or places i 0 → n < below → drops n ≡ true → dropped ≡ was ++ n ∷ [] → Gathered lits drops (take (i + 1) places) below uip clause dropped rest
gathered-dropped lits drops places i n below uip clause was dropped rest h lt is low d e =
    subst (λ ds. Gathered lits drops (take (i + 1) places) below uip clause ds rest) (sym e) (record {
      asserted = h.asserted;
      sound = h.sound;
      complete = All-more (IsSorted lits drops clause (was ++ n ∷ [])) places i 0 lt
          (All-weaker (IsSorted lits drops clause was) (IsSorted lits drops clause (was ++ n ∷ [])) (λ m k. more m k) (take i places) h.complete)
          (subst (IsSorted lits drops clause (was ++ n ∷ [])) is (inl (Contains-push was n)));
      low = All-push (λ m. (drops m ≡ true) × (m < below)) was n h.low (d, low);
      bound = h.bound;
      last = h.last;
    })
  where
    more : (m : ℕ) → IsSorted lits drops clause was m → IsSorted lits drops clause (was ++ n ∷ []) m
    more m (inl c) = inl (Contains-append_left was (n ∷ []) m c)
    more m (inr k) = inr k

pub gathered-more : (lits : List ℤ) (drops : ℕ → Bool) (places : List ℕ) (i n below uip : ℕ) (old new : List ℤ) (was dropped : List ℕ) (rest end : ℕ) → Gathered lits drops (take i places) below uip old was rest → i < length places → n ≡ get_or places i 0 → n < below → SortedAt drops (neg_ℤ (lit_at lits n)) n old new was dropped rest end → Gathered lits drops (take (i + 1) places) below uip new dropped end
gathered-more lits drops places i n below uip old new was dropped rest end h lt is low (inl (d, ed, ec, ee)) =
    subst (λ c. Gathered lits drops (take (i + 1) places) below uip c dropped end) (sym ec) (subst (Gathered lits drops (take (i + 1) places) below uip old dropped) (sym ee)
    (gathered-dropped lits drops places i n below uip old was dropped rest h lt is low d ed))
gathered-more lits drops places i n below uip old new was dropped rest end h lt is low (inr (d, ed, k)) =
    subst (λ ds. Gathered lits drops (take (i + 1) places) below uip new ds end) (sym ed) (gathered-kept lits drops places i n below uip old new was rest end h lt is low d k)

-- all marked places before the conflict's level were gathered
pub collected-of : (lits : List ℤ) (seen : List Bool) (drops : ℕ → Bool) (lower : List ℕ) (i below uip : ℕ) (clause : List ℤ) (dropped : List ℕ) (rest : ℕ) → below ≤ uip → uip < length lits → length lower ≤ i → Gathered lits drops (take i lower) below uip clause dropped rest → IsTracked lits below seen lower → Collected lits seen drops below uip clause dropped rest
collected-of lits seen drops lower i below uip clause dropped rest le lt all g t =
    record {
      asserted = g.asserted;
      sound = g.sound;
      complete = λ n b s. All-contains (IsSorted lits drops clause dropped) lower n (subst (All (IsSorted lits drops clause dropped)) (take_all i lower all) g.complete) (t.complete n b (omega (arith, b, le, lt)) s);
      low = g.low;
      bound = g.bound;
      last = g.last;
    }

-- the hints, one place further
pub leads-step : (clauses : List (List ℤ)) (c : List ℤ) (p : Path) (seen : List Bool) (dropped : List ℕ) (from conflict n : ℕ) (old new : List ℕ) → from ≤ n → n < length p.lits → IsDerivable clauses p seen dropped from c conflict → HintAt p seen n old new → Leads clauses c seen p.lits n old → Leads clauses c seen p.lits (n + 1) new
leads-step clauses c p seen dropped from conflict n old new le lt d (inl (s, e)) h =
    subst (Leads clauses c seen p.lits (n + 1)) (sym e) (leads-hinted clauses c p seen n old lt (d.later n le lt s) h)
leads-step clauses c p seen dropped from conflict n old new le lt d (inr (u, e)) h =
    subst (Leads clauses c seen p.lits (n + 1)) (sym e) (record { to = leads-same (numbered 1 clauses) c seen p.lits n old lt (inl u) h.to; named = h.named })

-- what analysis and collecting come to: the places that are dropped are in order
pub derivable-learned : (clauses : List (List ℤ)) (p : Path) (seen : List Bool) (below uip conflict : ℕ) (c : List ℤ) (was dropped : List ℕ) (rest : ℕ) → AreApart p.lits → IsLowest p.lits below seen uip → IsConflict clauses p.lits conflict → AreNamed clauses p → IsTraced clauses p seen (λ n. false) below uip conflict → Collected p.lits seen (is_redundant clauses p seen) below uip c was rest → IsPermutation was dropped → IsDerivable clauses p seen dropped (uip + 1) c conflict
derivable-learned clauses p seen below uip conflict c was dropped rest apart low k named t g perm =
    record {
      found = k;
      conflict_seen = t.conflict_seen;
      sooner = λ n lt i s. sooner n lt i s (cases_lt n below);
      low = All-weaker (λ n. (is_redundant clauses p seen n ≡ true) × (n < below)) (λ n. (n < uip + 1) × (n < length p.lits) × IsHinted clauses p seen c n) (λ n e. early n e.0 e.1) dropped
          (All-permutation (λ n. (is_redundant clauses p seen n ≡ true) × (n < below)) was dropped perm g.low);
      later = λ n le i s. late n le i s;
    }
  where
    after : below ≤ uip
    after = low.after

    inside : uip < length p.lits
    inside = low.inside

    negated : AreNegations p.lits seen (is_redundant clauses p seen) below uip c
    negated = negations-of p.lits seen (is_redundant clauses p seen) below uip rest c was low.after low.inside g

    split : (n : ℕ) → Contains was n ⊎ (has c (neg_ℤ (lit_at p.lits n)) ≡ true) → Contains dropped n ⊎ (has c (neg_ℤ (lit_at p.lits n)) ≡ true)
    split n (inl m) = inl (Contains-permutation was dropped n perm m)
    split n (inr e) = inr e

    sooner : (n : ℕ) → n < uip + 1 → n < length p.lits → seen_at seen (lit_at p.lits n) ≡ true → (n < below) ⊎ (below ≤ n) → Contains dropped n ⊎ (has c (neg_ℤ (lit_at p.lits n)) ≡ true)
    sooner n lt i s (inl b) = split n (g.complete n b s)
    sooner n lt i s (inr b) =
        let a : uip ≤ n = low.least n b i s in
        let e : n ≡ uip = omega (arith, a, lt) in
        inr (ap (λ m. has c (neg_ℤ (lit_at p.lits m))) e ∙ g.asserted)

    early : (n : ℕ) → is_redundant clauses p seen n ≡ true → n < below → (n < uip + 1) × (n < length p.lits) × IsHinted clauses p seen c n
    early n e b =
        let i : n < length p.lits = omega (arith, b, after, inside) in
        let r : IsReason clauses p.lits n (get_or p.reasons n 0) × AreSeen seen (clause_at clauses (get_or p.reasons n 0)) × (seen_at seen (lit_at p.lits n) ≡ true) = redundant-parts clauses p seen n named i e in (
          omega (arith, b, after),
          i,
          record {
            marked = r.2;
            reason = r.0;
            reason_seen = r.1;
            not_denied = resolved-denied p.lits seen (is_redundant clauses p seen) below uip n c (lit_at p.lits n) apart after negated i (inl (e, b)) refl;
            not_member = resolved-denied p.lits seen (is_redundant clauses p seen) below uip n c (neg_ℤ (lit_at p.lits n)) apart after negated i (inl (e, b)) (place_of-neg (lit_at p.lits n));
          },
        )

    late : (n : ℕ) → uip + 1 ≤ n → n < length p.lits → seen_at seen (lit_at p.lits n) ≡ true → IsHinted clauses p seen c n
    late n le i s =
        let b : below ≤ n = omega (arith, le, after) in
        let d : n ≢ uip = (λ e. omega (arith, le, e)) in
        record {
          marked = s;
          reason = t.reason n i (inr (b, d)) s;
          reason_seen = t.reason_seen n i (inr (b, d)) s;
          not_denied = resolved-denied p.lits seen (is_redundant clauses p seen) below uip n c (lit_at p.lits n) apart after negated i (inr (b, d)) refl;
          not_member = resolved-denied p.lits seen (is_redundant clauses p seen) below uip n c (neg_ℤ (lit_at p.lits n)) apart after negated i (inr (b, d)) (place_of-neg (lit_at p.lits n));
        }

pub derivable-zero : (clauses : List (List ℤ)) (p : Path) (seen : List Bool) (dropped : List ℕ) (conflict : ℕ) → dropped ≡ [] → IsConflict clauses p.lits conflict → IsTraced clauses p seen (λ n. true) (length p.lits) (length p.lits) conflict → IsDerivable clauses p seen dropped 0 [] conflict
derivable-zero clauses p seen dropped conflict e k t =
    subst (λ ds. IsDerivable clauses p seen ds 0 [] conflict) (sym e) (record {
      found = k;
      conflict_seen = t.conflict_seen;
      sooner = λ n lt i s. absurd (omega (arith, lt));
      low = All-nil (λ n. (n < 0) × (n < length p.lits) × IsHinted clauses p seen [] n);
      later = λ n le i s. record { marked = s; reason = t.reason n i (inl (refl, i)) s; reason_seen = t.reason_seen n i (inl (refl, i)) s; not_denied = refl; not_member = refl };
    })

pub dropped-inside : (lits : List ℤ) (seen : List Bool) (drops : ℕ → Bool) (below uip : ℕ) (c : List ℤ) (was dropped : List ℕ) (rest : ℕ) → IsLowest lits below seen uip → Collected lits seen drops below uip c was rest → IsPermutation was dropped → All (λ n. n < length lits) dropped
dropped-inside lits seen drops below uip c was dropped rest low g perm =
    let a : below ≤ uip = low.after in
    let b : uip < length lits = low.inside in
    All-weaker (λ n. (drops n ≡ true) × (n < below)) (λ n. n < length lits) (λ n e. let k : n < below = e.1 in omega (arith, a, b, k)) dropped (All-permutation (λ n. (drops n ≡ true) × (n < below)) was dropped perm g.low)
