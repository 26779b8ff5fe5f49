-- The table of values and the table of places, as a literal is set and as the last one is unset.
use Rattle.std.proofs.Common.{◌≡◌, ◌≢◌, ◌⊎◌, ℕ, ◌+◌, ◌*◌, ◌<◌, ◌≤◌, Bool, true, false, ◌||◌, List, [], ◌∷◌, ◌++◌, length, take, set, get_or, ℤ, pos, neg_ℤ, vec_capacity, ◌^◌, refl, sym, ◌∙◌, ap, subst, inl, inr, arith}
use Rattle.std.proofs.lemmas.Bool.{cases_lt, or_left, or_right}
use Rattle.std.proofs.lemmas.List.{get_or_default, get_or-set_same, get_or-set_other, get_or-take, length-take-le, get_or-append-add, get_or_append_left, length_push, take_all}
use Rattle.std.proofs.Math.ListN.{length-set}
use Rattle.std.specs.List.{All}
use Rattle.std.specs.Ordering.{int_eq}
use Rattle.hk_cnf.specs.Literal.{IsWithin, place_of, code_of, has}
use Rattle.hk_cnf.proofs.Members.{int_eq-is, int_eq-not, has-append}
use Rattle.std.proofs.lemmas.List.Elements.{All-push, All-take}
use Rattle.hk_cdcl.specs.declared.trail.Trail.TheInside.{Inside}
use Rattle.hk_cdcl.specs.Path.{AreApart, IsPath, lit_at}
use Rattle.hk_cdcl.specs.Kept.{view_of, IsTrail}
use Rattle.hk_cdcl.proofs.Places.{code_of-same, code_of-below, apart-new, apart-push, apart-count, apart-at, At, at-take, has-place, has-more}

-- each literal of the variables has its truth value in the table
pub record AreValues (vars : ℕ) (values : List Bool) (lits : List ℤ) : Type 0 where
  pub each : (l : ℤ) → IsWithin vars l → get_or values (code_of l) false ≡ has lits l

or-off : (b : Bool) → (b || (false || false)) ≡ b
or-off true = refl
or-off false = refl

pub values-push : (vars : ℕ) (values : List Bool) (lits : List ℤ) (l : ℤ) → length values ≡ 2 * vars → IsWithin vars l → AreValues vars values lits → AreValues vars (set values (code_of l) true) (lits ++ l ∷ [])
values-push vars values lits l n w h = record { each = λ k wk. pick k wk (int_eq k l) refl }
  where
    inside : code_of l < length values
    inside = let b : code_of l < 2 * vars = code_of-below vars l w in omega (arith, b, n)

    pick : (k : ℤ) → IsWithin vars k → (b : Bool) → int_eq k l ≡ b → get_or (set values (code_of l) true) (code_of k) false ≡ has (lits ++ l ∷ []) k
    pick k wk true e =
        let same : k ≡ l = int_eq-is k l e in
        let left : get_or (set values (code_of l) true) (code_of k) false ≡ true = ap (λ x. get_or (set values (code_of l) true) (code_of x) false) same ∙ get_or-set_same values (code_of l) true false inside in
        let right : has (lits ++ l ∷ []) k ≡ true = has-append lits (l ∷ []) k ∙ or_right (has lits k) (int_eq k l || false) (or_left (int_eq k l) false e) in
        left ∙ sym right
    pick k wk false e =
        let other : code_of k ≢ code_of l = (λ c. int_eq-not k l e (code_of-same k l wk.literal.nonzero w.literal.nonzero c)) in
        let right : has (lits ++ l ∷ []) k ≡ has lits k = has-append lits (l ∷ []) k ∙ (ap (λ b. has lits k || (b || false)) e ∙ or-off (has lits k)) in
        get_or-set_other values (code_of l) (code_of k) true false other ∙ (h.each k wk ∙ sym right)

-- each literal's place is in the table
pub record ArePlaced (places : List ℕ) (lits : List ℤ) : Type 0 where
  pub each : (n : ℕ) → n < length lits → get_or places (place_of (lit_at lits n)) 0 ≡ n

pub places-push : (vars : ℕ) (places : List ℕ) (lits : List ℤ) (l : ℤ) → length places ≡ vars → All (IsWithin vars) lits → IsWithin vars l → has lits l ≡ false → has lits (neg_ℤ l) ≡ false → ArePlaced places lits → ArePlaced (set places (place_of l) (length lits)) (lits ++ l ∷ [])
places-push vars places lits l n w wl a b h = record { each = λ m lt. pick m lt (cases_lt m (length lits)) }
  where
    inside : place_of l < length places
    inside = let k : place_of l < vars = wl.below in omega (arith, k, n)

    last : lit_at (lits ++ l ∷ []) (length lits) ≡ l
    last = ap (λ i. get_or (lits ++ l ∷ []) i (pos 0)) (omega arith) ∙ get_or-append-add lits (l ∷ []) 0 (pos 0)

    pick : (m : ℕ) → m < length (lits ++ l ∷ []) → (m < length lits) ⊎ (length lits ≤ m) → get_or (set places (place_of l) (length lits)) (place_of (lit_at (lits ++ l ∷ []) m)) 0 ≡ m
    pick m lt (inl k) =
        let same : lit_at (lits ++ l ∷ []) m ≡ lit_at lits m = get_or_append_left lits (l ∷ []) (pos 0) m k in
        ap (λ x. get_or (set places (place_of l) (length lits)) (place_of x) 0) same
        ∙ (get_or-set_other places (place_of l) (place_of (lit_at lits m)) (length lits) 0 (apart-new vars lits l m w wl a b k) ∙ h.each m k)
    pick m lt (inr k) =
        let same : m ≡ length lits = grind (arith, length_push lits l) in
        ap (λ i. get_or (set places (place_of l) (length lits)) (place_of (lit_at (lits ++ l ∷ []) i)) 0) same
        ∙ (ap (λ x. get_or (set places (place_of l) (length lits)) (place_of x) 0) last ∙ (get_or-set_same places (place_of l) (length lits) 0 inside ∙ sym same))

pub placed-apart : (places : List ℕ) (lits : List ℤ) → ArePlaced places lits → AreApart lits
placed-apart places lits h = λ i j d lt b e.
    let bi : i < length lits = omega (arith, lt, b) in
    let di : get_or lits i d ≡ lit_at lits i = get_or_default lits i d (pos 0) bi in
    let dj : get_or lits j d ≡ lit_at lits j = get_or_default lits j d (pos 0) b in
    let same : i ≡ j = sym (h.each i bi) ∙ (ap (λ p. get_or places p 0) (ap place_of (sym di) ∙ (e ∙ ap place_of dj)) ∙ h.each j b) in
    omega (arith, same, lt)

-- what the table of places says of the literals
pub path-of : (t : Inside) → IsTrail t → IsPath (view_of t)
path-of t h =
    let apart : AreApart t.lits.items = placed-apart t.places.items t.lits.items (record { each = h.placed }) in
    record { few = h.few; within = h.within; apart = apart; count = apart-count t.vars t.lits.items apart h.within; together = h.together }

-- a literal that is not set leaves room for it
pub room : (t : Inside) (l : ℤ) → IsTrail t → IsWithin t.vars l → has t.lits.items l ≡ false → has t.lits.items (neg_ℤ l) ≡ false → length t.lits.items < t.vars
room t l h w a b =
    let apart : AreApart t.lits.items = placed-apart t.places.items t.lits.items (record { each = h.placed }) in
    let n : length (t.lits.items ++ l ∷ []) ≤ t.vars = apart-count t.vars (t.lits.items ++ l ∷ []) (apart-push t.vars t.lits.items l apart h.within w a b) (All-push (IsWithin t.vars) t.lits.items l h.within w) in
    omega (arith, n, length_push t.lits.items l)

-- a literal more
pub pushed : (t u : Inside) (l : ℤ) (reason : ℕ) → IsTrail t → IsWithin t.vars l → has t.lits.items l ≡ false → has t.lits.items (neg_ℤ l) ≡ false → u.vars ≡ t.vars → u.lits.items ≡ t.lits.items ++ l ∷ [] → u.reasons.items ≡ t.reasons.items ++ reason ∷ [] → u.values.items ≡ set t.values.items (code_of l) true → u.places.items ≡ set t.places.items (place_of l) (length t.lits.items) → t.vars ≤ vec_capacity u.lits → t.vars ≤ vec_capacity u.reasons → IsTrail u
pushed t u l reason h w a b ev el er evs ep lr rr =
    let vs : AreValues t.vars (set t.values.items (code_of l) true) (t.lits.items ++ l ∷ []) = values-push t.vars t.values.items t.lits.items l h.two_each w (record { each = h.values }) in
    let ps : ArePlaced (set t.places.items (place_of l) (length t.lits.items)) (t.lits.items ++ l ∷ []) = places-push t.vars t.places.items t.lits.items l h.one_each h.within w a b (record { each = h.placed }) in
    let vs_at : AreValues u.vars u.values.items u.lits.items = subst (λ n. AreValues n u.values.items u.lits.items) (sym ev) (subst (λ x. AreValues t.vars x u.lits.items) (sym evs) (subst (AreValues t.vars (set t.values.items (code_of l) true)) (sym el) vs)) in
    let ps_at : ArePlaced u.places.items u.lits.items = subst (λ x. ArePlaced x u.lits.items) (sym ep) (subst (ArePlaced (set t.places.items (place_of l) (length t.lits.items))) (sym el) ps) in
    record {
      few = subst (λ n. n < 2 ^ 63) (sym ev) h.few;
      within = subst (λ n. All (IsWithin n) u.lits.items) (sym ev) (subst (All (IsWithin t.vars)) (sym el) (All-push (IsWithin t.vars) t.lits.items l h.within w));
      together = ap length er ∙ (length_push t.reasons.items reason ∙ (ap (λ n. n + 1) h.together ∙ (sym (length_push t.lits.items l) ∙ sym (ap length el))));
      two_each = ap length evs ∙ (length-set t.values.items (code_of l) true ∙ (h.two_each ∙ ap (λ n. 2 * n) (sym ev)));
      values = vs_at.each;
      one_each = ap length ep ∙ (length-set t.places.items (place_of l) (length t.lits.items) ∙ (h.one_each ∙ sym ev));
      placed = ps_at.each;
      lit_room = subst (λ n. n ≤ vec_capacity u.lits) (sym ev) lr;
      reason_room = subst (λ n. n ≤ vec_capacity u.reasons) (sym ev) rr;
    }

values-pop : (vars : ℕ) (values : List Bool) (lits : List ℤ) (n : ℕ) → length values ≡ 2 * vars → All (IsWithin vars) lits → AreApart lits → n + 1 ≡ length lits → AreValues vars values lits → AreValues vars (set values (code_of (lit_at lits n)) false) (take n lits)
values-pop vars values lits n two w apart last h = record { each = λ k wk. pick k wk (int_eq k l) refl }
  where
    l : ℤ
    l = lit_at lits n

    at : n < length lits
    at = omega (arith, last)

    wl : IsWithin vars (lit_at lits n)
    wl = w n (pos 0) at

    inside : code_of (lit_at lits n) < length values
    inside = let b : code_of (lit_at lits n) < 2 * vars = code_of-below vars (lit_at lits n) wl in omega (arith, b, two)

    whole : take (n + 1) lits ≡ lits
    whole = take_all (n + 1) lits (omega (arith, last))

    gone : At (take n lits) (lit_at lits n) → ⊥
    gone a = let p : (p : ℕ) × (p < n) × (lit_at lits p ≡ lit_at lits n) = at-take lits n (lit_at lits n) (omega (arith, last)) a in
        let same : p.0 ≡ n = apart-at lits p.0 n apart (let lt : p.0 < n = p.1 in omega (arith, lt, last)) at (ap place_of p.2) in
        let lt : p.0 < n = p.1 in omega (arith, lt, same)

    off : (b : Bool) → has (take n lits) (lit_at lits n) ≡ b → has (take n lits) (lit_at lits n) ≡ false
    off true e = absurd (gone (has-place (take n lits) (lit_at lits n) e))
    off false e = e

    pick : (k : ℤ) → IsWithin vars k → (b : Bool) → int_eq k (lit_at lits n) ≡ b → get_or (set values (code_of (lit_at lits n)) false) (code_of k) false ≡ has (take n lits) k
    pick k wk true e =
        let same : k ≡ lit_at lits n = int_eq-is k (lit_at lits n) e in
        ap (λ x. get_or (set values (code_of (lit_at lits n)) false) (code_of x) false) same
        ∙ (get_or-set_same values (code_of (lit_at lits n)) false false inside ∙ (sym (off (has (take n lits) (lit_at lits n)) refl) ∙ ap (has (take n lits)) (sym same)))
    pick k wk false e =
        let other : code_of k ≢ code_of (lit_at lits n) = (λ c. int_eq-not k (lit_at lits n) e (code_of-same k (lit_at lits n) wk.literal.nonzero wl.literal.nonzero c)) in
        let here : has lits k ≡ has (take n lits) k = ap (λ x. has x k) (sym whole) ∙ (has-more lits n k at ∙ (ap (λ b. has (take n lits) k || (b || false)) e ∙ or-off (has (take n lits) k))) in
        get_or-set_other values (code_of (lit_at lits n)) (code_of k) false false other ∙ (h.each k wk ∙ here)

-- without the last literal
pub popped : (t u : Inside) (n : ℕ) (l : ℤ) → IsTrail t → n + 1 ≡ length t.lits.items → l ≡ lit_at t.lits.items n → u.vars ≡ t.vars → u.lits.items ≡ take n t.lits.items → u.reasons.items ≡ take n t.reasons.items → u.values.items ≡ set t.values.items (code_of l) false → u.places.items ≡ t.places.items → t.vars ≤ vec_capacity u.lits → t.vars ≤ vec_capacity u.reasons → IsTrail u
popped t u n l h last is ev el er evs ep lr rr =
    let apart : AreApart t.lits.items = placed-apart t.places.items t.lits.items (record { each = h.placed }) in
    let vs : AreValues t.vars (set t.values.items (code_of (lit_at t.lits.items n)) false) (take n t.lits.items) = values-pop t.vars t.values.items t.lits.items n h.two_each h.within apart last (record { each = h.values }) in
    let evs_at : u.values.items ≡ set t.values.items (code_of (lit_at t.lits.items n)) false = evs ∙ ap (λ x. set t.values.items (code_of x) false) is in
    let vs_at : AreValues u.vars u.values.items u.lits.items = subst (λ n. AreValues n u.values.items u.lits.items) (sym ev) (subst (λ x. AreValues t.vars x u.lits.items) (sym evs_at) (subst (AreValues t.vars (set t.values.items (code_of (lit_at t.lits.items n)) false)) (sym el) vs)) in
    let len : length (take n t.lits.items) ≡ n = length-take-le n t.lits.items (omega (arith, last)) in
    let ps : ArePlaced t.places.items (take n t.lits.items) = record { each = λ m lt. let b : m < n = omega (arith, lt, len) in ap (λ x. get_or t.places.items (place_of x) 0) (get_or-take n t.lits.items m (pos 0) b) ∙ h.placed m (omega (arith, b, last)) } in
    let ps_at : ArePlaced u.places.items u.lits.items = subst (λ x. ArePlaced x u.lits.items) (sym ep) (subst (ArePlaced t.places.items) (sym el) ps) in
    let rs : length (take n t.reasons.items) ≡ n = length-take-le n t.reasons.items (let g : length t.reasons.items ≡ length t.lits.items = h.together in omega (arith, last, g)) in
    record {
      few = subst (λ n. n < 2 ^ 63) (sym ev) h.few;
      within = subst (λ n. All (IsWithin n) u.lits.items) (sym ev) (subst (All (IsWithin t.vars)) (sym el) (All-take (IsWithin t.vars) n t.lits.items h.within));
      together = ap length er ∙ (rs ∙ (sym len ∙ sym (ap length el)));
      two_each = ap length evs ∙ (length-set t.values.items (code_of l) false ∙ (h.two_each ∙ ap (λ n. 2 * n) (sym ev)));
      values = vs_at.each;
      one_each = ap length ep ∙ (h.one_each ∙ sym ev);
      placed = ps_at.each;
      lit_room = subst (λ n. n ≤ vec_capacity u.lits) (sym ev) lr;
      reason_room = subst (λ n. n ≤ vec_capacity u.reasons) (sym ev) rr;
    }
