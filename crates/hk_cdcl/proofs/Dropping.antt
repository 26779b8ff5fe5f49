-- The hints of dropped literals, in the order of the trail.
use Rattle.std.proofs.Common.{◌≡◌, ◌⊎◌, ℕ, zero, suc, ◌+◌, ◌<◌, ◌≤◌, Bool, true, false, List, [], ◌∷◌, ◌++◌, length, get_or, ◌-◌, ℤ, neg_ℤ, sym, ◌∙◌, ap, subst, inl, inr, arith}
use Rattle.std.specs.List.Sorted.{IsNonDecreasing}
use Rattle.std.proofs.lemmas.Bool.{cases_lt, cases_Bool}
use Rattle.std.proofs.lemmas.List.{get_or_default}
use Rattle.std.proofs.lemmas.List.Elements.{All-push, All-nil}
use Rattle.std.specs.List.{Contains}
use Rattle.hk_cnf.specs.Literal.{has}
use Rattle.hk_lrat.specs.Log.{numbered}
use Rattle.hk_cdcl.specs.Path.{Path, lit_at}
use Rattle.hk_cdcl.specs.Analysis.{seen_at}
use Rattle.hk_cdcl.specs.Learning.{HintedOnce, IsHinted, IsDerivable, Leads}
use Rattle.hk_cdcl.proofs.Leading.{leads-none, leads-same, leads-resolved}

-- the hint of a place
pub leads-hinted : (clauses : List (List ℤ)) (c : List ℤ) (p : Path) (seen : List Bool) (n : ℕ) (hints : List ℕ) → n < length p.lits → IsHinted clauses p seen c n → Leads clauses c seen p.lits n hints → Leads clauses c seen p.lits (n + 1) (hints ++ get_or p.reasons n 0 ∷ [])
leads-hinted clauses c p seen n hints lt k h =
    record {
      to = leads-resolved clauses c seen p.lits n (get_or p.reasons n 0) hints lt k.reason k.reason_seen k.marked k.not_denied k.not_member h.to;
      named = All-push (λ x. x ≤ length clauses) hints (get_or p.reasons n 0) h.named k.reason.inside;
    }

-- a marked literal is denied by the clause
abbrev pub IsPassed : List ℤ → List Bool → List ℤ → ℕ → Type 0
IsPassed c seen lits n = (seen_at seen (lit_at lits n) ≡ false) ⊎ (has c (neg_ℤ (lit_at lits n)) ≡ true)

leads-gap : (clauses : List (List ℤ)) (c : List ℤ) (seen : List Bool) (lits : List ℤ) (a d : ℕ) (hints : List ℕ) → Leads clauses c seen lits a hints → a + d ≤ length lits → ((n : ℕ) → a ≤ n → n < a + d → IsPassed c seen lits n) → Leads clauses c seen lits (a + d) hints
leads-gap clauses c seen lits a zero hints h le pass = subst (λ n. Leads clauses c seen lits n hints) (omega arith) h
leads-gap clauses c seen lits a (suc d) hints h le pass =
    let r : Leads clauses c seen lits (a + d) hints = leads-gap clauses c seen lits a d hints h (omega (arith, le)) (λ n l b. pass n l (omega (arith, b))) in
    subst (λ n. Leads clauses c seen lits n hints) (let e : (a + d) + 1 ≡ a + suc d = omega arith in e)
    (record { to = leads-same (numbered 1 clauses) c seen lits (a + d) hints (omega (arith, le)) (pass (a + d) (omega arith) (omega arith)) r.to; named = r.named })

-- the first places of those that are dropped are done with
pub record Led (clauses : List (List ℤ)) (c : List ℤ) (p : Path) (seen : List Bool) (dropped : List ℕ) (from i next : ℕ) (hints : List ℕ) : Type 0 where
  pub bound : next ≤ from
  pub past : (k : ℕ) → k < i → get_or dropped k 0 < next
  pub leads : (m : ℕ) → next ≤ m → m ≤ from → ((k : ℕ) → i ≤ k → k < length dropped → (get_or dropped k 0 < next) ⊎ (m ≤ get_or dropped k 0)) → Leads clauses c seen p.lits m hints

-- between two of them all marked literals are denied by the clause
gap : (clauses : List (List ℤ)) (c : List ℤ) (p : Path) (seen : List Bool) (dropped : List ℕ) (from conflict a m : ℕ) (hints : List ℕ) → IsDerivable clauses p seen dropped from c conflict → from ≤ length p.lits → Leads clauses c seen p.lits a hints → a ≤ m → m ≤ from → ((k : ℕ) → k < length dropped → (get_or dropped k 0 < a) ⊎ (m ≤ get_or dropped k 0)) → Leads clauses c seen p.lits m hints
gap clauses c p seen dropped from conflict a m hints d le h am mf away =
    pick (m - a) (omega (arith, am))
  where
    found : (n : ℕ) → a ≤ n → n < m → Contains dropped n ⊎ (has c (neg_ℤ (lit_at p.lits n)) ≡ true) → IsPassed c seen p.lits n
    found n l b (inl (k, lt, at)) =
        let e : get_or dropped k 0 ≡ n = get_or_default dropped k 0 n lt ∙ at in
        none (away k lt) e
      where
        none : (get_or dropped k 0 < a) ⊎ (m ≤ get_or dropped k 0) → get_or dropped k 0 ≡ n → IsPassed c seen p.lits n
        none (inl x) e = absurd (omega (arith, x, e, l))
        none (inr x) e = absurd (omega (arith, x, e, b))
    found n l b (inr e) = inr e

    passed : (n : ℕ) → a ≤ n → n < m → (seen_at seen (lit_at p.lits n) ≡ true) ⊎ (seen_at seen (lit_at p.lits n) ≡ false) → IsPassed c seen p.lits n
    passed n l b (inl s) = found n l b (d.sooner n (omega (arith, b, mf)) (omega (arith, b, mf, le)) s)
    passed n l b (inr u) = inl u

    pick : (w : ℕ) → a + w ≡ m → Leads clauses c seen p.lits m hints
    pick w e =
        subst (λ n. Leads clauses c seen p.lits n hints) e
        (leads-gap clauses c seen p.lits a w hints h (omega (arith, e, mf, le)) (λ n l b. passed n l (omega (arith, b, e)) (cases_Bool (seen_at seen (lit_at p.lits n)))))

pub led-none : (clauses : List (List ℤ)) (c : List ℤ) (p : Path) (seen : List Bool) (dropped : List ℕ) (from conflict : ℕ) (hints : List ℕ) → hints ≡ [] → from ≤ length p.lits → IsDerivable clauses p seen dropped from c conflict → Led clauses c p seen dropped from 0 0 hints
led-none clauses c p seen dropped from conflict hints e le d =
    subst (Led clauses c p seen dropped from 0 0) (sym e) (record {
      bound = omega arith;
      past = λ k lt. absurd (omega (arith, lt));
      leads = λ m a b away. gap clauses c p seen dropped from conflict 0 m [] d le (record { to = leads-none (numbered 1 clauses) c seen p.lits; named = All-nil (λ x. x ≤ length clauses) }) a b (λ k lt. away k (omega arith) lt);
    })

pub led-more : (clauses : List (List ℤ)) (c : List ℤ) (p : Path) (seen : List Bool) (dropped : List ℕ) (from conflict i next end : ℕ) (old new : List ℕ) → from ≤ length p.lits → IsNonDecreasing dropped → IsDerivable clauses p seen dropped from c conflict → i < length dropped → HintedOnce p (get_or dropped i 0) old new next end → Led clauses c p seen dropped from i next old → Led clauses c p seen dropped from (i + 1) end new
led-more clauses c p seen dropped from conflict i next end old new le rising d lt (inl (a, en, ee)) h =
    subst (λ n. Led clauses c p seen dropped from (i + 1) n new) (sym ee) (subst (Led clauses c p seen dropped from (i + 1) next) (sym en) (record {
      bound = h.bound;
      past = λ k b. past k b (cases_lt k i);
      leads = λ m x y away. h.leads m x y (λ k b l. skip m away k b l (cases_lt i k));
    }))
  where
    past : (k : ℕ) → k < i + 1 → (k < i) ⊎ (i ≤ k) → get_or dropped k 0 < next
    past k b (inl l) = h.past k l
    past k b (inr l) = let e : i ≡ k = omega (arith, b, l) in subst (λ n. get_or dropped n 0 < next) e a

    skip : (m : ℕ) → ((k : ℕ) → i + 1 ≤ k → k < length dropped → (get_or dropped k 0 < next) ⊎ (m ≤ get_or dropped k 0)) → (k : ℕ) → i ≤ k → k < length dropped → (i < k) ⊎ (k ≤ i) → (get_or dropped k 0 < next) ⊎ (m ≤ get_or dropped k 0)
    skip m away k b l (inl g) = away k (omega (arith, g)) l
    skip m away k b l (inr g) = let e : i ≡ k = omega (arith, b, g) in inl (subst (λ n. get_or dropped n 0 < next) e a)
led-more clauses c p seen dropped from conflict i next end old new le rising d lt (inr (a, en, ee)) h =
    subst (λ n. Led clauses c p seen dropped from (i + 1) n new) (sym ee) (subst (Led clauses c p seen dropped from (i + 1) (get_or dropped i 0 + 1)) (sym en) (record {
      bound = omega (arith, low);
      past = λ k b. past k b (cases_lt k i);
      leads = λ m x y away. gap clauses c p seen dropped from conflict (get_or dropped i 0 + 1) m (old ++ get_or p.reasons (get_or dropped i 0) 0 ∷ []) d le here x y (λ k l. around m away k l (cases_lt i k));
    }))
  where
    low : get_or dropped i 0 < from
    low = (d.low i 0 lt).0

    reached : Leads clauses c seen p.lits (get_or dropped i 0) old
    reached = h.leads (get_or dropped i 0) a (omega (arith, low)) (λ k b l. inr (rising i k 0 b l))

    here : Leads clauses c seen p.lits (get_or dropped i 0 + 1) (old ++ get_or p.reasons (get_or dropped i 0) 0 ∷ [])
    here = leads-hinted clauses c p seen (get_or dropped i 0) old (d.low i 0 lt).1 (d.low i 0 lt).2 reached

    past : (k : ℕ) → k < i + 1 → (k < i) ⊎ (i ≤ k) → get_or dropped k 0 < get_or dropped i 0 + 1
    past k b (inl l) = let q : get_or dropped k 0 < next = h.past k l in omega (arith, q, a)
    past k b (inr l) = let e : k ≡ i = omega (arith, b, l) in let q : get_or dropped k 0 ≡ get_or dropped i 0 = ap (λ n. get_or dropped n 0) e in omega (arith, q)

    around : (m : ℕ) → ((k : ℕ) → i + 1 ≤ k → k < length dropped → (get_or dropped k 0 < get_or dropped i 0 + 1) ⊎ (m ≤ get_or dropped k 0)) → (k : ℕ) → k < length dropped → (i < k) ⊎ (k ≤ i) → (get_or dropped k 0 < get_or dropped i 0 + 1) ⊎ (m ≤ get_or dropped k 0)
    around m away k l (inl g) = away k (omega (arith, g)) l
    around m away k l (inr g) = inl (past k (omega (arith, g)) (cases_lt k i))

-- all of them are done with
pub led-all : (clauses : List (List ℤ)) (c : List ℤ) (p : Path) (seen : List Bool) (dropped : List ℕ) (from i next : ℕ) (hints : List ℕ) → length dropped ≤ i → Led clauses c p seen dropped from i next hints → Leads clauses c seen p.lits from hints
led-all clauses c p seen dropped from i next hints le h = h.leads from h.bound (omega arith) (λ k a lt. absurd (omega (arith, le, a, lt)))
