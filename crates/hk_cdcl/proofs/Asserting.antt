-- The clause that was collected is the one that is learned.
use Rattle.std.proofs.Common.{◌≡◌, ◌⊎◌, ℕ, ◌<◌, ◌≤◌, Bool, true, false, List, [], ◌∷◌, length, take, ℤ, pos, neg_ℤ, refl, sym, ◌∙◌, ap, subst, inl, inr, arith}
use Rattle.std.proofs.lemmas.Bool.{or_from, or_right, or_left, false_from_ne_true, false≢true}
use Rattle.std.proofs.lemmas.List.Elements.{All-weaker, All-nil}
use Rattle.std.specs.List.{All, Contains}
use Rattle.std.specs.Ordering.{int_eq}
use Rattle.hk_cnf.specs.Literal.{IsWithin, has}
use Rattle.hk_cnf.proofs.Members.{int_eq-refl, all-has}
use Rattle.hk_lrat.specs.Log.{has_both}
use Rattle.hk_cdcl.specs.Path.{Path, IsPath, lit_at}
use Rattle.hk_cdcl.specs.Analysis.{seen_at, IsLowest, IsKept, IsNegated, AreNegations, Derives, IsLearned}
use Rattle.hk_cdcl.specs.Learning.{IsBefore, Collected}
use Rattle.hk_cdcl.proofs.Places.{neg-neg, has-take, has-member, apart-consistent, within-neg}

pub negations-of : (lits : List ℤ) (seen : List Bool) (drops : ℕ → Bool) (below uip rest : ℕ) (clause : List ℤ) (dropped : List ℕ) → below ≤ uip → uip < length lits → Collected lits seen drops below uip clause dropped rest → AreNegations lits seen drops below uip clause
negations-of lits seen drops below uip rest clause dropped a b h =
    record {
      sound = All-weaker (λ l. (l ≡ neg_ℤ (lit_at lits uip)) ⊎ IsBefore lits drops rest l) (IsNegated lits drops below uip) (λ l k. pick l k) clause h.sound;
      complete = λ n lt k s. choose n k s;
    }
  where
    pick : (l : ℤ) → (l ≡ neg_ℤ (lit_at lits uip)) ⊎ IsBefore lits drops rest l → IsNegated lits drops below uip l
    pick l (inl e) = record { place = uip; inside = b; kept = inr refl; is = sym (neg-neg (lit_at lits uip)) ∙ ap neg_ℤ (sym e) }
    pick l (inr k) =
        let lt : k.place < rest = k.before in
        let r : rest ≤ below = h.bound in
        record { place = k.place; inside = omega (arith, lt, r, a, b); kept = inl (k.kept, omega (arith, lt, r)); is = k.is }

    split : (n : ℕ) → drops n ≡ false → Contains dropped n ⊎ (has clause (neg_ℤ (lit_at lits n)) ≡ true) → has clause (neg_ℤ (lit_at lits n)) ≡ true
    split n d (inl (k, lt, at)) = absurd (false≢true (sym d ∙ (ap drops (sym at) ∙ (h.low k n lt).0)))
    split n d (inr e) = e

    choose : (n : ℕ) → IsKept drops below uip n → seen_at seen (lit_at lits n) ≡ true → has clause (neg_ℤ (lit_at lits n)) ≡ true
    choose n (inl (d, lt)) s = split n d (h.complete n lt s)
    choose n (inr e) s = ap (λ i. has clause (neg_ℤ (lit_at lits i))) e ∙ h.asserted

-- each literal of the clause is false on the trail
negated-false : (lits : List ℤ) (drops : ℕ → Bool) (below uip : ℕ) (l : ℤ) → IsNegated lits drops below uip l → has lits (neg_ℤ l) ≡ true
negated-false lits drops below uip l k = has-member lits k.place (neg_ℤ l) k.inside k.is

no-both : (c : List ℤ) → ((l : ℤ) → has c l ≡ true → has c (neg_ℤ l) ≡ true → ⊥) → has_both c ≡ false
no-both [] h = refl
no-both (x ∷ c) h =
    or_from (has c (neg_ℤ x)) (has_both c)
    (false_from_ne_true (has c (neg_ℤ x)) (λ e. h x (or_left (int_eq x x) (has c x) (int_eq-refl x)) (or_right (int_eq (neg_ℤ x) x) (has c (neg_ℤ x)) e)))
    (no-both c (λ l a b. h l (or_right (int_eq l x) (has c l) a) (or_right (int_eq (neg_ℤ l) x) (has c (neg_ℤ l)) b)))

pub learned : (clauses : List (List ℤ)) (p : Path) (seen : List Bool) (drops : ℕ → Bool) (below uip rest : ℕ) (clause : List ℤ) (dropped hints : List ℕ) → IsPath p → IsLowest p.lits below seen uip → Collected p.lits seen drops below uip clause dropped rest → Derives clauses clause hints → All (λ k. k ≤ length clauses) hints → IsLearned clauses p below clause hints rest
learned clauses p seen drops below uip rest clause dropped hints path low h d named =
    record {
      within = All-weaker (IsNegated p.lits drops below uip) (IsWithin p.vars) (λ l k. inside l k) clause g.sound;
      not_both = no-both clause (λ l a b. apart-consistent p.vars p.lits (neg_ℤ l) path.within path.apart (falsified l a) (falsified (neg_ℤ l) b));
      derived = d;
      hinted = named;
      asserting = record {
        uip = uip;
        after = low.after;
        inside = low.inside;
        member = h.asserted;
        others = All-weaker (λ l. (l ≡ neg_ℤ (lit_at p.lits uip)) ⊎ IsBefore p.lits drops rest l) (λ l. (l ≡ neg_ℤ (lit_at p.lits uip)) ⊎ (has (take rest p.lits) (neg_ℤ l) ≡ true)) (λ l k. pick l k) clause h.sound;
        bound = h.bound;
        last = h.last;
      };
    }
  where
    g : AreNegations p.lits seen drops below uip clause
    g = negations-of p.lits seen drops below uip rest clause dropped low.after low.inside h

    falsified : (l : ℤ) → has clause l ≡ true → has p.lits (neg_ℤ l) ≡ true
    falsified l m = negated-false p.lits drops below uip l (all-has (IsNegated p.lits drops below uip) clause l g.sound m)

    inside : (l : ℤ) → IsNegated p.lits drops below uip l → IsWithin p.vars l
    inside l k = subst (IsWithin p.vars) (neg-neg l) (within-neg p.vars (neg_ℤ l) (subst (IsWithin p.vars) k.is (path.within k.place (pos 0) k.inside)))

    pick : (l : ℤ) → (l ≡ neg_ℤ (lit_at p.lits uip)) ⊎ IsBefore p.lits drops rest l → (l ≡ neg_ℤ (lit_at p.lits uip)) ⊎ (has (take rest p.lits) (neg_ℤ l) ≡ true)
    pick l (inl e) = inl e
    pick l (inr k) =
        let lt : k.place < rest = k.before in
        let r : rest ≤ below = h.bound in
        let a : below ≤ uip = low.after in
        let b : uip < length p.lits = low.inside in
        inr (has-take p.lits rest k.place (neg_ℤ l) lt (omega (arith, lt, r, a, b)) k.is (omega (arith, r, a, b)))

-- the empty clause has no literal
pub negations-none : (lits : List ℤ) (seen : List Bool) → AreNegations lits seen (λ n. true) (length lits) (length lits) []
negations-none lits seen =
    record {
      sound = All-nil (IsNegated lits (λ n. true) (length lits) (length lits));
      complete = λ n lt k s. absurd (none n lt k);
    }
  where
    none : (n : ℕ) → n < length lits → IsKept (λ m. true) (length lits) (length lits) n → ⊥
    none n lt (inl (a, b)) = false≢true (sym a)
    none n lt (inr e) = omega (arith, lt, e)
