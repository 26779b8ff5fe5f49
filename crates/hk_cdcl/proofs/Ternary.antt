-- A list of v variables has at most 3^v clauses, so no more additions are fresh.
use Rattle.std.proofs.Common.{◌≡◌, ◌≢◌, ◌⊎◌, ℕ, zero, suc, ◌+◌, ◌-◌, ◌*◌, ◌^◌, ◌<◌, ◌≤◌, Bool, true, false, eqb, List, [], ◌∷◌, ◌++◌, map, length, take, drop, get_or, ℤ, pos, negsuc, neg_ℤ, refl, sym, ◌∙◌, ap, subst, inl, inr, arith, length-append, length-drop}
use Rattle.std.proofs.lemmas.Bool.{false≢true, or_cases, or_parts, cases_Bool, cases_lt, le-ltb}
use Rattle.std.proofs.Math.Nat.{pow-succ'}
use Rattle.std.proofs.lemmas.Bool.Decides.{Decides-eqb}
use Rattle.std.proofs.lemmas.List.{get_or_default, get_or-map, length-map, get_or-append-add, get_or_append_left}
use Rattle.std.proofs.lemmas.List.Elements.{All-nil, All-cons, All-drop}
use Rattle.std.proofs.lemmas.List.Folds.{Any-from_list_any}
use Rattle.std.proofs.lemmas.Map.Steps.{length-le_from_distinct_below}
use Rattle.std.proofs.lemmas.Map.Made.{IsDistinct-from_AllPairs}
use Rattle.std.specs.List.{All, AllPairs, Any, list_all, list_any}
use Rattle.std.specs.Ordering.{int_eq}
use Rattle.hk_cnf.specs.declared.hint.Hint.TheVariants.{Unit as OneLeft, Other}
use Rattle.hk_cnf.specs.Literal.{has}
use Rattle.hk_cnf.specs.Clauses.{Clauses}
use Rattle.hk_cnf.specs.Hint.{hint_of, Single}
use Rattle.hk_cnf.proofs.Members.{int_eq-is, all-has}
use Rattle.hk_cnf.proofs.Tells.{tells-at, hint-single}
use Rattle.hk_lrat.specs.declared.log.LratRow.{LratRow}
use Rattle.hk_lrat.specs.declared.log.LratRow.TheVariants.{Add, Delete}
use Rattle.hk_lrat.specs.Log.{State, start, is_within, has_both, after_row}
use Rattle.hk_lrat.specs.Refutes.{AreAccepted}
use Rattle.hk_lrat.proofs.Sound.{all-pass, accepted, IsAccepted}
use Rattle.hk_cdcl.specs.Fresh.{AreFresh, additions, before_last, IsSpent}
use Rattle.hk_cdcl.proofs.Places.{has-at, neg-neg}

-- the literals of an accepted clause are of the variables, and none stands there with its negation
record IsProper (vars : ℕ) (c : List ℤ) : Type 0 where
  pub within : list_all (is_within vars) c ≡ true
  pub not_both : has_both c ≡ false

accepted-all : (s : State) (log : List LratRow) → AreAccepted s log → All (IsProper s.vars) (additions log)
accepted-all s [] h = All-nil (IsProper s.vars)
accepted-all s (Add id c hints ∷ log) h =
    let a : IsAccepted s id c hints = accepted s id c hints h.0 in
    All-cons (IsProper s.vars) c (additions log) (record { within = a.within; not_both = a.not_both }) (accepted-all (after_row s (Add id c hints)) log h.1)
accepted-all s (Delete ids ∷ log) h = accepted-all (after_row s (Delete ids)) log h.1

both-none : (c : List ℤ) (l : ℤ) → l ≢ neg_ℤ l → has_both c ≡ false → has c l ≡ true → has c (neg_ℤ l) ≡ true → ⊥
both-none [] l z h a b = false≢true a
both-none (x ∷ c) l z h a b = pick (λ e f. both-none c l z (or_parts (has c (neg_ℤ x)) (has_both c) h).1 e f) (or_cases (int_eq l x) (has c l) a) (or_cases (int_eq (neg_ℤ l) x) (has c (neg_ℤ l)) b)
  where
    parts : (has c (neg_ℤ x) ≡ false) × (has_both c ≡ false)
    parts = or_parts (has c (neg_ℤ x)) (has_both c) h

    pick : (has c l ≡ true → has c (neg_ℤ l) ≡ true → ⊥) → (int_eq l x ≡ true) ⊎ (has c l ≡ true) → (int_eq (neg_ℤ l) x ≡ true) ⊎ (has c (neg_ℤ l) ≡ true) → ⊥
    pick go (inl e) (inl f) = z (int_eq-is l x e ∙ sym (int_eq-is (neg_ℤ l) x f))
    pick go (inl e) (inr f) = false≢true (sym parts.0 ∙ (ap (λ y. has c (neg_ℤ y)) (sym (int_eq-is l x e)) ∙ f))
    pick go (inr e) (inl f) = false≢true (sym parts.0 ∙ (ap (λ y. has c (neg_ℤ y)) (sym (int_eq-is (neg_ℤ l) x f)) ∙ (ap (has c) (neg-neg l) ∙ e)))
    pick go (inr e) (inr f) = go e f

-- a clause as a number in base 3: a digit for each variable
digit : Bool → Bool → ℕ
digit true q = 1
digit false true = 2
digit false false = 0

digit-small : (p q : Bool) → digit p q < 3
unfolding digit
digit-small true q = omega arith
digit-small false true = omega arith
digit-small false false = omega arith

digit-same : (p q r s : Bool) → (p ≡ true → q ≡ true → ⊥) → (r ≡ true → s ≡ true → ⊥) → digit p q ≡ digit r s → (p ≡ r) × (q ≡ s)
unfolding digit
digit-same true true r s a b e = absurd (a refl refl)
digit-same true false true true a b e = absurd (b refl refl)
digit-same true false true false a b e = (refl, refl)
digit-same true false false true a b e = absurd (omega (arith, e))
digit-same true false false false a b e = absurd (omega (arith, e))
digit-same false true true s a b e = absurd (omega (arith, e))
digit-same false true false true a b e = (refl, refl)
digit-same false true false false a b e = absurd (omega (arith, e))
digit-same false false true s a b e = absurd (omega (arith, e))
digit-same false false false true a b e = absurd (omega (arith, e))
digit-same false false false false a b e = (refl, refl)

abbrev code : List ℤ → ℕ → ℕ
code c zero = 0
code c (suc n) = 3 * code c n + digit (has c (pos (suc n))) (has c (negsuc n))

code-small : (c : List ℤ) (n : ℕ) → code c n < 3 ^ n
code-small c zero = omega arith
code-small c (suc n) =
    let h : code c n < 3 ^ n = code-small c n in
    let d : digit (has c (pos (suc n))) (has c (negsuc n)) < 3 = digit-small (has c (pos (suc n))) (has c (negsuc n)) in
    let p : 3 ^ suc n ≡ 3 * 3 ^ n = pow-succ' 3 n in
    omega (arith, h, d, p)

-- the variables' digits tell the literals
code-same : (c d : List ℤ) (v n : ℕ) → ((l : ℤ) → l ≢ neg_ℤ l → has c l ≡ true → has c (neg_ℤ l) ≡ true → ⊥) → ((l : ℤ) → l ≢ neg_ℤ l → has d l ≡ true → has d (neg_ℤ l) ≡ true → ⊥) → code c v ≡ code d v → n < v → (has c (pos (suc n)) ≡ has d (pos (suc n))) × (has c (negsuc n) ≡ has d (negsuc n))
code-same c d zero n p q e lt = absurd (omega (arith, lt))
code-same c d (suc v) n p q e lt = pick (λ r k. code-same c d v n p q r k) (cases_lt n v)
  where
    a : digit (has c (pos (suc v))) (has c (negsuc v)) < 3
    a = digit-small (has c (pos (suc v))) (has c (negsuc v))

    b : digit (has d (pos (suc v))) (has d (negsuc v)) < 3
    b = digit-small (has d (pos (suc v))) (has d (negsuc v))

    rest : code c v ≡ code d v
    rest = omega (arith, a, b, e)

    here : digit (has c (pos (suc v))) (has c (negsuc v)) ≡ digit (has d (pos (suc v))) (has d (negsuc v))
    here = omega (arith, a, b, e)

    top : (has c (pos (suc v)) ≡ has d (pos (suc v))) × (has c (negsuc v) ≡ has d (negsuc v))
    top = digit-same (has c (pos (suc v))) (has c (negsuc v)) (has d (pos (suc v))) (has d (negsuc v)) (p (pos (suc v)) (λ s. cc)) (q (pos (suc v)) (λ s. cc)) here

    pick : (code c v ≡ code d v → n < v → (has c (pos (suc n)) ≡ has d (pos (suc n))) × (has c (negsuc n) ≡ has d (negsuc n))) → (n < v) ⊎ (v ≤ n) → (has c (pos (suc n)) ≡ has d (pos (suc n))) × (has c (negsuc n) ≡ has d (negsuc n))
    pick go (inl k) = go rest k
    pick go (inr k) = let s : v ≡ n = omega (arith, k, lt) in subst (λ m. (has c (pos (suc m)) ≡ has d (pos (suc m))) × (has c (negsuc m) ≡ has d (negsuc m))) s top

outside : (vars : ℕ) (c : List ℤ) (l : ℤ) → IsProper vars c → is_within vars l ≡ false → has c l ≡ false
outside vars c l h e = pick (cases_Bool (has c l))
  where
    pick : (has c l ≡ true) ⊎ (has c l ≡ false) → has c l ≡ false
    pick (inl m) = absurd (false≢true (sym e ∙ all-has (λ x. is_within vars x ≡ true) c l (all-pass (is_within vars) c h.within) m))
    pick (inr m) = m

-- clauses of one number have the same literals
same-literals : (vars : ℕ) (c d : List ℤ) → IsProper vars c → IsProper vars d → code c vars ≡ code d vars → (l : ℤ) → has c l ≡ has d l
same-literals vars c d p q e (pos zero) = outside vars c (pos zero) p refl ∙ sym (outside vars d (pos zero) q refl)
same-literals vars c d p q e (pos (suc n)) = pick (cases_lt n vars)
  where
    pick : (n < vars) ⊎ (vars ≤ n) → has c (pos (suc n)) ≡ has d (pos (suc n))
    pick (inl lt) = (code-same c d vars n (λ l z. both-none c l z p.not_both) (λ l z. both-none d l z q.not_both) e lt).0
    pick (inr ge) = outside vars c (pos (suc n)) p (le-ltb n vars ge) ∙ sym (outside vars d (pos (suc n)) q (le-ltb n vars ge))
same-literals vars c d p q e (negsuc n) = pick (cases_lt n vars)
  where
    pick : (n < vars) ⊎ (vars ≤ n) → has c (negsuc n) ≡ has d (negsuc n)
    pick (inl lt) = (code-same c d vars n (λ l z. both-none c l z p.not_both) (λ l z. both-none d l z q.not_both) e lt).1
    pick (inr ge) = outside vars c (negsuc n) p (le-ltb n vars ge) ∙ sym (outside vars d (negsuc n) q (le-ltb n vars ge))

-- a set of literals under which one clause is not unit, and the other is
record Differ (c d : List ℤ) : Type 0 where
  pub truths : List ℤ
  pub literal : ℤ
  pub quiet : hint_of (has truths) c ≡ Other
  pub unit : hint_of (has truths) d ≡ OneLeft literal

-- so they have not the same literals
differ : (c d : List ℤ) → Differ c d → ((l : ℤ) → has c l ≡ has d l) → ⊥
differ c d h same = let e : Other ≡ OneLeft h.literal = sym h.quiet ∙ moved in cc
  where
    single : Single (has h.truths) h.literal d
    single = tells-at (has h.truths) d (OneLeft h.literal) h.unit

    moved : hint_of (has h.truths) c ≡ OneLeft h.literal
    moved = hint-single (has h.truths) h.literal c (record {
      member = same h.literal ∙ single.member;
      others = λ k x lt. all-has (λ y. (h.literal ≡ y) ⊎ (has h.truths (neg_ℤ y) ≡ true)) d (get_or c k x) single.others (sym (same (get_or c k x)) ∙ subst (λ y. has c y ≡ true) (get_or_default c k (pos 0) x lt) (has-at c k lt));
      not_true = single.not_true;
      not_false = single.not_false;
    })

-- a clause that is fresh differs from each one before it
fresh-later : (before cs : List (List ℤ)) (k j : ℕ) → AreFresh before cs → k < length before → j < length cs → Differ (get_or before k []) (get_or cs j [])
fresh-later before [] k j h a b = absurd (omega (arith, b))
fresh-later before (d ∷ cs) k zero h a b = record { truths = h.0.truths; literal = h.0.literal; quiet = h.0.quiet k [] a; unit = h.0.unit }
fresh-later before (d ∷ cs) k (suc j) h a b =
    subst (λ x. Differ x (get_or cs j [])) (get_or_append_left before (d ∷ []) [] k a)
    (fresh-later (before ++ d ∷ []) cs k j h.1 (let n : length (before ++ d ∷ []) ≡ length before + 1 = length-append before (d ∷ []) in omega (arith, a, n)) (omega (arith, b)))

fresh-pairs : (before cs : List (List ℤ)) (i j : ℕ) → AreFresh before cs → i < j → j < length cs → Differ (get_or cs i []) (get_or cs j [])
fresh-pairs before [] i j h lt b = absurd (omega (arith, b))
fresh-pairs before (d ∷ cs) i zero h lt b = absurd (omega (arith, lt))
fresh-pairs before (d ∷ cs) zero (suc j) h lt b =
    subst (λ x. Differ x (get_or cs j [])) (ap (λ n. get_or (before ++ d ∷ []) n []) (omega arith) ∙ get_or-append-add before (d ∷ []) 0 [])
    (fresh-later (before ++ d ∷ []) cs (length before) j h.1 (let n : length (before ++ d ∷ []) ≡ length before + 1 = length-append before (d ∷ []) in omega (arith, n)) (omega (arith, b)))
fresh-pairs before (d ∷ cs) (suc i) (suc j) h lt b = fresh-pairs (before ++ d ∷ []) cs i j h.1 (omega (arith, lt)) (omega (arith, b))

-- so there are at most 3^v of them
fresh-count : (vars : ℕ) (before cs : List (List ℤ)) → AreFresh before cs → All (IsProper vars) cs → length cs ≤ 3 ^ vars
fresh-count vars before cs h p =
    subst (λ n. n ≤ 3 ^ vars) (length-map cs (λ c. code c vars))
    (length-le_from_distinct_below (map (λ c. code c vars) cs) (3 ^ vars) (IsDistinct-from_AllPairs {eq = eqb} Decides-eqb (map (λ c. code c vars) cs) pairs) below)
  where
    pairs : AllPairs (λ x y. x ≢ y) (map (λ c. code c vars) cs)
    pairs = λ i j d lt b e.
        let bj : j < length cs = subst (λ n. j < n) (length-map cs (λ c. code c vars)) b in
        let bi : i < length cs = omega (arith, lt, bj) in
        let same : code (get_or cs i []) vars ≡ code (get_or cs j []) vars = sym (get_or-map (λ c. code c vars) cs i [] d bi) ∙ (e ∙ get_or-map (λ c. code c vars) cs j [] d bj) in
        differ (get_or cs i []) (get_or cs j []) (fresh-pairs before cs i j h lt bj) (same-literals vars (get_or cs i []) (get_or cs j []) (p i [] bi) (p j [] bj) same)

    found : (q : ℕ) → Any (λ x. eqb q x ≡ true) (map (λ c. code c vars) cs) → q < 3 ^ vars
    found q (k, x, lt, at, e) =
        let b : k < length cs = subst (λ n. k < n) (length-map cs (λ c. code c vars)) lt in
        let is : code (get_or cs k []) vars ≡ x = sym (get_or-map (λ c. code c vars) cs k [] x b) ∙ at in
        let s : q ≡ x = (Decides-eqb q x).0 e in
        let c : code (get_or cs k []) vars < 3 ^ vars = code-small (get_or cs k []) vars in
        subst (λ y. y < 3 ^ vars) (is ∙ sym s) c

    below : (q : ℕ) → list_any (eqb q) (map (λ c. code c vars) cs) ≡ true → q < 3 ^ vars
    below q m = found q (Any-from_list_any (eqb q) (map (λ c. code c vars) cs) m)

-- a budget that was spent is not over 3^v
pub spent-bound : (list : Clauses) (log : List LratRow) (budget : ℕ) → IsSpent list log budget → budget ≤ 3 ^ list.vars
spent-bound list log budget s =
    let n : ℕ = before_last budget log in
    let cs : List (List ℤ) = drop (before_last budget log) (additions log) in
    let len : length (drop (before_last budget log) (additions log)) ≡ length (additions log) - before_last budget log = length-drop (before_last budget log) (additions log) in
    let enough : budget ≤ length (additions log) = s.enough in
    let bound : length (drop (before_last budget log) (additions log)) ≤ 3 ^ list.vars =
    fresh-count list.vars (list.clauses ++ take (before_last budget log) (additions log)) (drop (before_last budget log) (additions log)) s.fresh (All-drop (IsProper list.vars) (before_last budget log) (additions log) (accepted-all (start list) log s.accepted)) in
    omega (arith, len, enough, bound)
