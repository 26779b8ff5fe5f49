-- The hints of a learned clause: following them makes the marked literals true, place by place.
use mathlib.Core.Path.{fun_ext}
use Rattle.std.proofs.Common.{◌≡◌, ◌⊎◌, ℕ, zero, suc, ◌+◌, ◌-◌, ◌<◌, ◌≤◌, Bool, true, false, ◌&&◌, ◌||◌, eqb, List, [], ◌∷◌, ◌++◌, length, take, get_or, ℤ, neg_ℤ, Some, None, refl, sym, ◌∙◌, ap, subst, inl, inr, arith, append_assoc}
use Rattle.std.proofs.lemmas.Bool.{false≢true, cond-true, cond-false, ne_eqb, eq-eqb, or_left, or_right, or_from, and_left, and_from}
use Rattle.std.proofs.lemmas.List.{take_all}
use Rattle.std.specs.Ordering.{int_eq}
use Rattle.hk_cnf.specs.declared.hint.Hint.TheVariants.{False, Unit as OneLeft}
use Rattle.hk_cnf.specs.Literal.{place_of, has, denied}
use Rattle.hk_cnf.specs.Hint.{hint_of, with_true, Single}
use Rattle.hk_cnf.proofs.Members.{int_eq-is, all-has}
use Rattle.hk_cnf.proofs.Tells.{hint-single, hint-false}
use Rattle.hk_lrat.specs.Log.{Live, numbered, clause_of, at_clause, at_hint, follow}
use Rattle.hk_cdcl.specs.Path.{AreApart, IsReason, lit_at, clause_at}
use Rattle.hk_cdcl.specs.Propagation.{IsConflict}
use Rattle.hk_cdcl.specs.Analysis.{seen_at, AreSeen, IsKept, IsResolved, IsNegated, AreNegations, Derives}
use Rattle.hk_cdcl.specs.Learning.{upto, LeadsTo}
use Rattle.hk_cdcl.proofs.Places.{has-more, place_of-neg, neg-neg, apart-at}
use Rattle.hk_cdcl.proofs.Resolving.{reason-single}
use Rattle.hk_cdcl.proofs.Tracing.{conflict-false}

-- the clause of an id
clause_of-from : (n k : ℕ) (cs : List (List ℤ)) → k < length cs → clause_of (numbered n cs) (n + k) ≡ Some (get_or cs k [])
clause_of-from n k [] lt = absurd (omega (arith, lt))
clause_of-from n zero (c ∷ cs) lt = cond-true (eqb n (n + 0)) (Some c) (clause_of (numbered (n + 1) cs) (n + 0)) (eq-eqb n (n + 0) (omega arith))
clause_of-from n (suc k) (c ∷ cs) lt =
    cond-false (eqb n (n + suc k)) (Some c) (clause_of (numbered (n + 1) cs) (n + suc k)) (ne_eqb n (n + suc k) (λ e. omega (arith, e)))
    ∙ (ap (clause_of (numbered (n + 1) cs)) (omega arith) ∙ clause_of-from (n + 1) k cs (omega (arith, lt)))

pub clause_of-numbered : (cs : List (List ℤ)) (id : ℕ) → 1 ≤ id → id ≤ length cs → clause_of (numbered 1 cs) id ≡ Some (clause_at cs id)
clause_of-numbered cs id a b = let e : id ≡ 1 + (id - 1) = omega (arith, a) in ap (clause_of (numbered 1 cs)) e ∙ clause_of-from 1 (id - 1) cs (omega (arith, a, b))

follow-same : (live : Live) (t u : ℤ → Bool) (hs : List ℕ) → ((l : ℤ) → t l ≡ u l) → follow live t hs ≡ follow live u hs
follow-same live t u hs h = let e : t ≡ u = fun_ext h in ap (λ (f : ℤ → Bool). follow live f hs) e

-- a hint whose clause is unit, and one whose clause is false
follow-unit : (live : Live) (t : ℤ → Bool) (id : ℕ) (hs : List ℕ) (c : List ℤ) (l : ℤ) → clause_of live id ≡ Some c → hint_of t c ≡ OneLeft l → follow live t (id ∷ hs) ≡ follow live (with_true l t) hs
follow-unit live t id hs c l a b =
    ap (λ o. at_clause o (λ d. at_hint (hint_of t d) (λ k. follow live (with_true k t) hs))) a ∙ ap (λ h. at_hint h (λ k. follow live (with_true k t) hs)) b

follow-false : (live : Live) (t : ℤ → Bool) (id : ℕ) (hs : List ℕ) (c : List ℤ) → clause_of live id ≡ Some c → hint_of t c ≡ False → follow live t (id ∷ hs) ≡ None
follow-false live t id hs c a b =
    ap (λ o. at_clause o (λ d. at_hint (hint_of t d) (λ k. follow live (with_true k t) hs))) a ∙ ap (λ h. at_hint h (λ k. follow live (with_true k t) hs)) b

or-off : (b : Bool) → b ≡ (b || false)
or-off true = refl
or-off false = refl

pub leads-none : (live : Live) (c : List ℤ) (seen : List Bool) (lits : List ℤ) → LeadsTo live c seen lits 0 []
leads-none live c seen lits = record { each = λ rest. follow-same live (denied c) (upto c seen lits 0) rest (λ l. or-off (denied c l)) }

-- a literal that is not marked, and one that is kept
pub leads-same : (live : Live) (c : List ℤ) (seen : List Bool) (lits : List ℤ) (n : ℕ) (hints : List ℕ) → n < length lits → (seen_at seen (lit_at lits n) ≡ false) ⊎ (has c (neg_ℤ (lit_at lits n)) ≡ true) → LeadsTo live c seen lits n hints → LeadsTo live c seen lits (n + 1) hints
leads-same live c seen lits n hints lt why h =
    record { each = λ rest. h.each rest ∙ follow-same live (upto c seen lits n) (upto c seen lits (n + 1)) rest (λ l. point l (int_eq l (lit_at lits n)) refl) }
  where
    other : (d k s : Bool) → (d || (k && s)) ≡ (d || ((k || (false || false)) && s))
    other true k s = refl
    other false true s = refl
    other false false s = refl

    unmarked : (d k b : Bool) → (d || (k && false)) ≡ (d || ((k || (b || false)) && false))
    unmarked true k b = refl
    unmarked false true b = refl
    unmarked false false true = refl
    unmarked false false false = refl

    here : (l : ℤ) → l ≡ lit_at lits n → (seen_at seen (lit_at lits n) ≡ false) ⊎ (has c (neg_ℤ (lit_at lits n)) ≡ true) → (denied c l || (has (take n lits) l && seen_at seen l)) ≡ (denied c l || ((has (take n lits) l || (int_eq l (lit_at lits n) || false)) && seen_at seen l))
    here l e (inl s) =
        let z : seen_at seen l ≡ false = ap (seen_at seen) e ∙ s in
        ap (λ b. denied c l || (has (take n lits) l && b)) z
        ∙ (unmarked (denied c l) (has (take n lits) l) (int_eq l (lit_at lits n)) ∙ sym (ap (λ b. denied c l || ((has (take n lits) l || (int_eq l (lit_at lits n) || false)) && b)) z))
    here l e (inr s) =
        let z : denied c l ≡ true = ap (λ x. has c (neg_ℤ x)) e ∙ s in
        or_left (denied c l) (has (take n lits) l && seen_at seen l) z ∙ sym (or_left (denied c l) ((has (take n lits) l || (int_eq l (lit_at lits n) || false)) && seen_at seen l) z)

    cases : (l : ℤ) (b : Bool) → int_eq l (lit_at lits n) ≡ b → (denied c l || (has (take n lits) l && seen_at seen l)) ≡ (denied c l || ((has (take n lits) l || (int_eq l (lit_at lits n) || false)) && seen_at seen l))
    cases l true e = here l (int_eq-is l (lit_at lits n) e) why
    cases l false e = other (denied c l) (has (take n lits) l) (seen_at seen l) ∙ ap (λ b. denied c l || ((has (take n lits) l || (b || false)) && seen_at seen l)) (sym e)

    point : (l : ℤ) (b : Bool) → int_eq l (lit_at lits n) ≡ b → upto c seen lits n l ≡ upto c seen lits (n + 1) l
    point l b e = cases l b e ∙ ap (λ k. denied c l || (k && seen_at seen l)) (sym (has-more lits n l lt))

-- a literal that is resolved: its reason is unit, and makes it true
pub leads-resolved : (clauses : List (List ℤ)) (c : List ℤ) (seen : List Bool) (lits : List ℤ) (n id : ℕ) (hints : List ℕ) → n < length lits → IsReason clauses lits n id → AreSeen seen (clause_at clauses id) → seen_at seen (lit_at lits n) ≡ true → denied c (lit_at lits n) ≡ false → denied c (neg_ℤ (lit_at lits n)) ≡ false → LeadsTo (numbered 1 clauses) c seen lits n hints → LeadsTo (numbered 1 clauses) c seen lits (n + 1) (hints ++ id ∷ [])
leads-resolved clauses c seen lits n id hints lt r marked mark away neg_away h =
    record {
      each = λ rest.
          ap (follow (numbered 1 clauses) (denied c)) (append_assoc hints (id ∷ []) rest) ∙ (h.each (id ∷ rest)
          ∙ (follow-unit (numbered 1 clauses) (upto c seen lits n) id rest (clause_at clauses id) (lit_at lits n) (clause_of-numbered clauses id r.named r.inside) unit
          ∙ follow-same (numbered 1 clauses) (with_true (lit_at lits n) (upto c seen lits n)) (upto c seen lits (n + 1)) rest (λ l. point l (int_eq l (lit_at lits n)) refl)));
    }
  where
    single : Single (has (take n lits)) (lit_at lits n) (clause_at clauses id)
    single = reason-single clauses lits n id r

    lifted : (x : ℤ) → seen_at seen x ≡ true → (lit_at lits n ≡ x) ⊎ (has (take n lits) (neg_ℤ x) ≡ true) → (lit_at lits n ≡ x) ⊎ (upto c seen lits n (neg_ℤ x) ≡ true)
    lifted x s (inl e) = inl e
    lifted x s (inr e) = inr (or_right (denied c (neg_ℤ x)) (has (take n lits) (neg_ℤ x) && seen_at seen (neg_ℤ x)) (and_from (has (take n lits) (neg_ℤ x)) (seen_at seen (neg_ℤ x)) e (ap (λ v. get_or seen v false) (place_of-neg x) ∙ s)))

    unit : hint_of (upto c seen lits n) (clause_at clauses id) ≡ OneLeft (lit_at lits n)
    unit = hint-single (upto c seen lits n) (lit_at lits n) (clause_at clauses id) (record {
      member = single.member;
      others = λ k d b. lifted (get_or (clause_at clauses id) k d) (marked k d b) (single.others k d b);
      not_true = or_from (denied c (lit_at lits n)) (has (take n lits) (lit_at lits n) && seen_at seen (lit_at lits n)) away (and_left (has (take n lits) (lit_at lits n)) (seen_at seen (lit_at lits n)) single.not_true);
      not_false = or_from (denied c (neg_ℤ (lit_at lits n))) (has (take n lits) (neg_ℤ (lit_at lits n)) && seen_at seen (neg_ℤ (lit_at lits n))) neg_away (and_left (has (take n lits) (neg_ℤ (lit_at lits n))) (seen_at seen (neg_ℤ (lit_at lits n))) single.not_false);
    })

    set-here : (d k : Bool) → true ≡ (d || ((k || (true || false)) && true))
    set-here true k = refl
    set-here false true = refl
    set-here false false = refl

    other : (d k s : Bool) → (d || (k && s)) ≡ (d || ((k || (false || false)) && s))
    other true k s = refl
    other false true s = refl
    other false false s = refl

    cases : (l : ℤ) (b : Bool) → int_eq l (lit_at lits n) ≡ b → (b || upto c seen lits n l) ≡ (denied c l || ((has (take n lits) l || (b || false)) && seen_at seen l))
    cases l true e =
        let z : seen_at seen l ≡ true = ap (seen_at seen) (int_eq-is l (lit_at lits n) e) ∙ mark in
        set-here (denied c l) (has (take n lits) l) ∙ ap (λ s. denied c l || ((has (take n lits) l || (true || false)) && s)) (sym z)
    cases l false e = other (denied c l) (has (take n lits) l) (seen_at seen l)

    point : (l : ℤ) (b : Bool) → int_eq l (lit_at lits n) ≡ b → with_true (lit_at lits n) (upto c seen lits n) l ≡ upto c seen lits (n + 1) l
    point l b e =
        ap (λ x. x || upto c seen lits n l) e ∙ (cases l b e ∙ (ap (λ x. denied c l || ((has (take n lits) l || (x || false)) && seen_at seen l)) (sym e)
        ∙ ap (λ k. denied c l || (k && seen_at seen l)) (sym (has-more lits n l lt))))

-- at last the conflict is false
pub leads-conflict : (clauses : List (List ℤ)) (c : List ℤ) (seen : List Bool) (lits : List ℤ) (n conflict : ℕ) (hints : List ℕ) → length lits ≤ n → IsConflict clauses lits conflict → AreSeen seen (get_or clauses conflict []) → LeadsTo (numbered 1 clauses) c seen lits n hints → Derives clauses c (hints ++ (conflict + 1) ∷ [])
leads-conflict clauses c seen lits n conflict hints le h marked l =
    l.each ((conflict + 1) ∷ [])
    ∙ follow-false (numbered 1 clauses) (upto c seen lits n) (conflict + 1) [] (get_or clauses conflict []) named refuted
  where
    named : clause_of (numbered 1 clauses) (conflict + 1) ≡ Some (get_or clauses conflict [])
    named = clause_of-numbered clauses (conflict + 1) (omega arith) (let b : conflict < length clauses = h.inside in omega (arith, b)) ∙ ap (λ i. Some (get_or clauses i [])) (omega arith)

    lifted : (x : ℤ) → seen_at seen x ≡ true → has lits (neg_ℤ x) ≡ true → upto c seen lits n (neg_ℤ x) ≡ true
    lifted x s e =
        or_right (denied c (neg_ℤ x)) (has (take n lits) (neg_ℤ x) && seen_at seen (neg_ℤ x))
        (and_from (has (take n lits) (neg_ℤ x)) (seen_at seen (neg_ℤ x)) (ap (λ ls. has ls (neg_ℤ x)) (take_all n lits le) ∙ e) (ap (λ v. get_or seen v false) (place_of-neg x) ∙ s))

    refuted : hint_of (upto c seen lits n) (get_or clauses conflict []) ≡ False
    refuted = hint-false (upto c seen lits n) (get_or clauses conflict []) (λ k d b. lifted (get_or (get_or clauses conflict []) k d) (marked k d b) (conflict-false clauses lits conflict h k d b))

-- a place is not both kept and resolved
pub kept-resolved : (drops : ℕ → Bool) (below uip n : ℕ) → below ≤ uip → IsKept drops below uip n → IsResolved drops below uip n → ⊥
kept-resolved drops below uip n b (inl (c, d)) (inl (e, f)) = false≢true (sym c ∙ e)
kept-resolved drops below uip n b (inl (c, d)) (inr (e, f)) = omega (arith, d, e)
kept-resolved drops below uip n b (inr c) (inl (e, f)) = omega (arith, b, c, f)
kept-resolved drops below uip n b (inr c) (inr (e, f)) = f c

-- no literal of a resolved place's variable is in the clause
pub resolved-denied : (lits : List ℤ) (seen : List Bool) (drops : ℕ → Bool) (below uip n : ℕ) (c : List ℤ) (y : ℤ) → AreApart lits → below ≤ uip → AreNegations lits seen drops below uip c → n < length lits → IsResolved drops below uip n → place_of y ≡ place_of (lit_at lits n) → denied c y ≡ false
resolved-denied lits seen drops below uip n c y apart b h lt r e = pick (denied c y) refl
  where
    pick : (v : Bool) → denied c y ≡ v → denied c y ≡ false
    pick false m = m
    pick true m =
        let k : IsNegated lits drops below uip (neg_ℤ y) = all-has (IsNegated lits drops below uip) c (neg_ℤ y) h.sound m in
        let same : k.place ≡ n = apart-at lits k.place n apart k.inside lt (ap place_of k.is ∙ (ap place_of (neg-neg y) ∙ e)) in
        absurd (kept-resolved drops below uip n b (subst (IsKept drops below uip) same k.kept) r)
