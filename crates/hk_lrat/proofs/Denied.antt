-- Marks against sets of literals, and the hints of a row under sets that agree.
use Rattle.std.proofs.Common.{◌≡◌, ◌≢◌, ◌⊎◌, ℕ, zero, suc, ◌+◌, ◌-◌, ◌*◌, ◌<◌, ◌≤◌, Bool, true, false, not, ◌&&◌, ◌||◌, cond, eqb, ltb, List, [], ◌∷◌, ◌++◌, length, take, drop, set, get_or, ℤ, pos, negsuc, neg_ℤ, Option, Some, None, refl, sym, ◌∙◌, ap, subst, inl, inr, arith}
use Rattle.std.proofs.lemmas.Bool.{false≢true, or_cases, ne_eqb, eq-eqb, le-ltb, lt-ltb, or_right, or_left, and_left, and_right, and_from, cond-true}
use Rattle.std.proofs.lemmas.Bool.Decides.{Decides-int_eq, Decides-like, same_from_decides}
use Rattle.std.proofs.lemmas.List.{get_or-set_same, get_or-set_other, take-append-drop, take_more, drop_more, drop_all}
use Rattle.std.proofs.lemmas.List.Elements.{All-head, All-tail, All-set, All-weaker, All-map, All-take, All-drop}
use Rattle.std.proofs.lemmas.List.Folds.{list_all-append, list_any-append, list_all_at}
use Rattle.std.specs.List.{All, list_all, fold, filter}
use Rattle.std.specs.Ordering.{int_eq}
use Rattle.hk_cnf.specs.declared.hint.Hint.{Hint}
use Rattle.hk_cnf.specs.declared.hint.Hint.TheVariants.{False, Unit as OneLeft, Other}
use Rattle.hk_cnf.specs.Literal.{IsLiteral, IsWithin, place_of, code_of, has, denied}
use Rattle.hk_cnf.specs.Hint.{with_literal, with_open, hint_of, with_true, Single}
use Rattle.hk_cnf.proofs.Members.{int_eq-is, int_eq-not, all-has}
use Rattle.hk_cnf.proofs.Tells.{tells-at}
use Rattle.hk_lrat.specs.declared.table.Entry.{Entry}
use Rattle.hk_lrat.specs.Entries.{entry_of, live_of}
use Rattle.hk_lrat.specs.declared.log.RowReason.TheVariants.{L1, L2, L3, L4, L5}
use Rattle.hk_lrat.specs.Log.{Live, State, add_fault, clause_of, at_clause, at_hint, follow, is_within, has_both}
use Rattle.hk_lrat.specs.Marks.{marked, Agree}

-- two literals have two codes
code_of-same : (k l : ℤ) → k ≢ pos 0 → l ≢ pos 0 → code_of k ≡ code_of l → k ≡ l
code_of-same (pos zero) l a b e = absurd (a refl)
code_of-same (pos (suc m)) (pos zero) a b e = absurd (b refl)
code_of-same (pos (suc m)) (pos (suc n)) a b e = ap (λ x. pos (suc x)) (omega arith)
code_of-same (pos (suc m)) (negsuc n) a b e = absurd (omega arith)
code_of-same (negsuc m) (pos zero) a b e = absurd (b refl)
code_of-same (negsuc m) (pos (suc n)) a b e = absurd (omega arith)
code_of-same (negsuc m) (negsuc n) a b e = ap negsuc (omega arith)

code_of-below : (vars : ℕ) (l : ℤ) → IsWithin vars l → code_of l < 2 * vars
code_of-below vars (pos zero) w = absurd (w.literal.nonzero refl)
code_of-below vars (pos (suc n)) w = let h : n < vars = w.below in omega (arith, h)
code_of-below vars (negsuc n) w = let h : n < vars = w.below in omega (arith, h)

pub IsWithin-neg : (vars : ℕ) (l : ℤ) → IsWithin vars l → IsWithin vars (neg_ℤ l)
IsWithin-neg vars (pos zero) w = w
IsWithin-neg vars (pos (suc n)) w = record { literal = record { nonzero = λ e. cc; small = w.literal.small }; below = w.below }
IsWithin-neg vars (negsuc n) w = record { literal = record { nonzero = λ e. cc; small = w.literal.small }; below = w.below }

-- one mark more
marked-set : (vars : ℕ) (marks : List ℕ) (row : ℕ) (l k : ℤ) → length marks ≡ 2 * vars → IsWithin vars l → IsWithin vars k → marked (set marks (code_of l) row) row k ≡ with_true l (marked marks row) k
marked-set vars marks row l k n wl wk = pick (int_eq k l) refl
  where
    below : code_of l < length marks
    below = let h : code_of l < 2 * vars = code_of-below vars l wl in omega (arith, h, n)

    pick : (b : Bool) → int_eq k l ≡ b → marked (set marks (code_of l) row) row k ≡ (b || marked marks row k)
    pick true e =
        let same : k ≡ l = int_eq-is k l e in
        ap (λ x. marked (set marks (code_of l) row) row x) same ∙ (ap (λ x. eqb x row) (get_or-set_same marks (code_of l) row 0 below) ∙ eq-eqb row row refl)
    pick false e =
        let other : code_of k ≢ code_of l = (λ c. int_eq-not k l e (code_of-same k l wk.literal.nonzero wl.literal.nonzero c)) in
        ap (λ x. eqb x row) (get_or-set_other marks (code_of l) (code_of k) row 0 other)

pub Agree-mark : (vars : ℕ) (marks : List ℕ) (row : ℕ) (l : ℤ) → length marks ≡ 2 * vars → IsWithin vars l → Agree vars (marked (set marks (code_of l) row) row) (with_true l (marked marks row))
Agree-mark vars marks row l n w = record { same = λ k wk. marked-set vars marks row l k n w wk }

Agree-with : (vars : ℕ) (t u : ℤ → Bool) (l : ℤ) → Agree vars t u → Agree vars (with_true l t) (with_true l u)
Agree-with vars t u l h = record { same = λ k w. ap (λ b. int_eq k l || b) (h.same k w) }

pub Agree-trans : (vars : ℕ) (t u v : ℤ → Bool) → Agree vars t u → Agree vars u v → Agree vars t v
Agree-trans vars t u v h g = record { same = λ k w. h.same k w ∙ g.same k w }

-- sets that agree give each clause the same answer
with_open-agree : (t u : ℤ → Bool) (h : Hint) (l : ℤ) → t l ≡ u l → with_open t h l ≡ with_open u h l
with_open-agree t u False l e = ap (λ b. cond b Other (OneLeft l)) e
with_open-agree t u (OneLeft k) l e = refl
with_open-agree t u Other l e = refl

fold-agree : (vars : ℕ) (t u : ℤ → Bool) (h : Hint) (c : List ℤ) → Agree vars t u → All (IsWithin vars) c → fold (with_literal t) h c ≡ fold (with_literal u) h c
fold-agree vars t u h [] a w = refl
fold-agree vars t u h (l ∷ c) a w =
    let here : IsWithin vars l = All-head (IsWithin vars) l c w in
    let step : with_literal t h l ≡ with_literal u h l =
    ap (λ b. cond b h (with_open t h l)) (a.same (neg_ℤ l) (IsWithin-neg vars l here)) ∙ ap (λ o. cond (u (neg_ℤ l)) h o) (with_open-agree t u h l (a.same l here)) in
    ap (λ g. fold (with_literal t) g c) step ∙ fold-agree vars t u (with_literal u h l) c a (All-tail (IsWithin vars) l c w)

hint_of-agree : (vars : ℕ) (t u : ℤ → Bool) (c : List ℤ) → Agree vars t u → All (IsWithin vars) c → hint_of t c ≡ hint_of u c
hint_of-agree vars t u c a w = fold-agree vars t u False c a w

-- the live clauses are over the variables
pub record AreOver (vars : ℕ) (live : Live) : Type 0 where
  pub each : All (λ e. All (IsWithin vars) e.1) live

pub clause_of-within : (vars : ℕ) (live : Live) (id : ℕ) (c : List ℤ) → All (λ e. All (IsWithin vars) e.1) live → clause_of live id ≡ Some c → All (IsWithin vars) c
clause_of-within vars [] id c h e = absurd cc
clause_of-within vars (x ∷ live) id c h e = pick (clause_of-within vars live id c (All-tail (λ y. All (IsWithin vars) y.1) x live h)) (eqb x.0 id) e
  where
    pick : (clause_of live id ≡ Some c → All (IsWithin vars) c) → (b : Bool) → cond b (Some x.1) (clause_of live id) ≡ Some c → All (IsWithin vars) c
    pick rest true s = let same : x.1 ≡ c = cc in subst (All (IsWithin vars)) same (All-head (λ y. All (IsWithin vars) y.1) x live h)
    pick rest false s = rest s

-- so do the hints of a row
pub follow-agree : (vars : ℕ) (live : Live) (t u : ℤ → Bool) (hs : List ℕ) → AreOver vars live → Agree vars t u → follow live t hs ≡ follow live u hs
follow-agree vars live t u [] h a = refl
follow-agree vars live t u (x ∷ hs) h a = found (λ l. follow-agree vars live (with_true l t) (with_true l u) hs h (Agree-with vars t u l a)) (clause_of live x) refl
  where
    told : ((l : ℤ) → follow live (with_true l t) hs ≡ follow live (with_true l u) hs) → (k : Hint) → at_hint k (λ l. follow live (with_true l t) hs) ≡ at_hint k (λ l. follow live (with_true l u) hs)
    told go False = refl
    told go (OneLeft l) = go l
    told go Other = refl

    found : ((l : ℤ) → follow live (with_true l t) hs ≡ follow live (with_true l u) hs) → (o : Option (List ℤ)) → clause_of live x ≡ o → at_clause o (λ c. at_hint (hint_of t c) (λ l. follow live (with_true l t) hs)) ≡ at_clause o (λ c. at_hint (hint_of u c) (λ l. follow live (with_true l u) hs))
    found go None at = refl
    found go (Some c) at =
        ap (λ k. at_hint k (λ l. follow live (with_true l t) hs)) (hint_of-agree vars t u c a (clause_of-within vars live x c h.each at))
        ∙ told go (hint_of u c)

-- the test of a literal against the variables
pub is_within-from : (vars : ℕ) (l : ℤ) → IsLiteral l → place_of l < vars → is_within vars l ≡ true
is_within-from vars (pos zero) i h = absurd (i.nonzero refl)
is_within-from vars (pos (suc n)) i h = lt-ltb n vars h
is_within-from vars (negsuc n) i h = lt-ltb n vars h

pub is_within-not : (vars : ℕ) (l : ℤ) → vars ≤ place_of l → is_within vars l ≡ false
is_within-not vars (pos zero) h = refl
is_within-not vars (pos (suc n)) h = le-ltb n vars h
is_within-not vars (negsuc n) h = le-ltb n vars h

neg-neg : (l : ℤ) → neg_ℤ (neg_ℤ l) ≡ l
neg-neg (pos zero) = refl
neg-neg (pos (suc n)) = refl
neg-neg (negsuc n) = refl

pub int_eq-flip : (k l : ℤ) → int_eq k l ≡ int_eq l k
int_eq-flip k l = same_from_decides (int_eq k l) (int_eq l k) (Decides-int_eq k l) (Decides-like (int_eq l k) (λ e. sym e) (λ e. sym e) (Decides-int_eq l k))

int_eq-neg : (k l : ℤ) → int_eq (neg_ℤ k) l ≡ int_eq k (neg_ℤ l)
int_eq-neg k l =
    same_from_decides (int_eq (neg_ℤ k) l) (int_eq k (neg_ℤ l)) (Decides-int_eq (neg_ℤ k) l)
    (Decides-like (int_eq k (neg_ℤ l)) (λ e. ap neg_ℤ e ∙ neg-neg l) (λ e. sym (neg-neg k) ∙ ap neg_ℤ e) (Decides-int_eq k (neg_ℤ l)))

or-mix : (a b c d : Bool) → (a || (b || false)) || (c || d) ≡ (a || c) || (b || d)
or-mix true b c d = refl
or-mix false true true d = refl
or-mix false true false d = refl
or-mix false false c d = refl

-- a literal more at the end
pub has_both-push : (c : List ℤ) (l : ℤ) → has_both (c ++ l ∷ []) ≡ (has_both c || has c (neg_ℤ l))
has_both-push [] l = refl
has_both-push (x ∷ c) l =
    ap (λ b. b || has_both (c ++ l ∷ [])) (list_any-append (int_eq (neg_ℤ x)) c (l ∷ []))
    ∙ (ap (λ b. (has c (neg_ℤ x) || (int_eq (neg_ℤ x) l || false)) || b) (has_both-push c l)
    ∙ (ap (λ b. (has c (neg_ℤ x) || (b || false)) || (has_both c || has c (neg_ℤ l))) (int_eq-neg x l ∙ int_eq-flip x (neg_ℤ l))
    ∙ or-mix (has c (neg_ℤ x)) (int_eq (neg_ℤ l) x) (has_both c) (has c (neg_ℤ l))))

pub has_both-left : (c d : List ℤ) → has_both c ≡ true → has_both (c ++ d) ≡ true
has_both-left [] d h = absurd (false≢true h)
has_both-left (x ∷ c) d h = pick (has_both-left c d) (or_cases (has c (neg_ℤ x)) (has_both c) h)
  where
    pick : (has_both c ≡ true → has_both (c ++ d) ≡ true) → (has c (neg_ℤ x) ≡ true) ⊎ (has_both c ≡ true) → has (c ++ d) (neg_ℤ x) || has_both (c ++ d) ≡ true
    pick rest (inl e) = or_left (has (c ++ d) (neg_ℤ x)) (has_both (c ++ d)) (list_any-append (int_eq (neg_ℤ x)) c d ∙ or_left (has c (neg_ℤ x)) (has d (neg_ℤ x)) e)
    pick rest (inr e) = or_right (has (c ++ d) (neg_ℤ x)) (has_both (c ++ d)) (rest e)

or-swap : (a b : Bool) → a || b ≡ b || (a || false)
or-swap true true = refl
or-swap true false = refl
or-swap false true = refl
or-swap false false = refl

denied-push : (c : List ℤ) (l k : ℤ) → with_true (neg_ℤ l) (denied c) k ≡ denied (c ++ l ∷ []) k
denied-push c l k =
    ap (λ b. b || has c (neg_ℤ k)) (sym (int_eq-neg k l))
    ∙ (or-swap (int_eq (neg_ℤ k) l) (has c (neg_ℤ k)) ∙ sym (list_any-append (int_eq (neg_ℤ k)) c (l ∷ [])))

-- the literals that were denied so far
pub record Denies (vars : ℕ) (marks : List ℕ) (row : ℕ) (c : List ℤ) : Type 0 where
  pub within : list_all (is_within vars) c ≡ true
  pub not_both : has_both c ≡ false
  pub agree : Agree vars (marked marks row) (denied c)
  pub kept : All (λ m. m ≤ row) marks

pub Denies-none : (vars : ℕ) (marks : List ℕ) (row : ℕ) → length marks ≡ 2 * vars → All (λ m. m < row) marks → Denies vars marks row []
Denies-none vars marks row n h =
    record {
      within = refl;
      not_both = refl;
      agree = record { same = λ l w. ne_eqb (get_or marks (code_of l) 0) row (λ e. let b : code_of l < 2 * vars = code_of-below vars l w in let lt : get_or marks (code_of l) 0 < row = h (code_of l) 0 (omega (arith, b, n)) in omega (arith, lt, e)) };
      kept = All-weaker (λ m. m < row) (λ m. m ≤ row) (λ m lt. omega (arith, lt)) marks h;
    }

pub Denies-more : (vars : ℕ) (marks marks' : List ℕ) (row : ℕ) (c : List ℤ) (i : ℕ) (l k : ℤ) → length marks ≡ 2 * vars → Denies vars marks row (take i c) → i < length c → l ≡ get_or c i l → IsLiteral l → place_of l < vars → marked marks row l ≡ false → k ≡ neg_ℤ l → marks' ≡ set marks (code_of k) row → Denies vars marks' row (take (i + 1) c)
Denies-more vars marks marks' row c i l k n d lt at lit below free neg new =
    let w : IsWithin vars l = record { literal = lit; below = below } in
    let parts : take i c ++ l ∷ [] ≡ take (i + 1) c = ap (λ x. take i c ++ x ∷ []) at ∙ sym (take_more c i l lt) in
    let same : set marks (code_of (neg_ℤ l)) row ≡ marks' = ap (λ x. set marks (code_of x) row) (sym neg) ∙ sym new in
    subst (Denies vars marks' row) parts (subst (λ m. Denies vars m row (take i c ++ l ∷ [])) same
    (record {
      within = list_all-append (is_within vars) (take i c) (l ∷ []) ∙ and_from (list_all (is_within vars) (take i c)) (list_all (is_within vars) (l ∷ [])) d.within (and_from (is_within vars l) true (is_within-from vars l lit below) refl);
      not_both = has_both-push (take i c) l ∙ or_false (has_both (take i c)) (has (take i c) (neg_ℤ l)) d.not_both (sym (d.agree.same l w) ∙ free);
      agree = Agree-trans vars (marked (set marks (code_of (neg_ℤ l)) row) row) (with_true (neg_ℤ l) (marked marks row)) (denied (take i c ++ l ∷ []))
          (Agree-mark vars marks row (neg_ℤ l) n (IsWithin-neg vars l w))
          (Agree-trans vars (with_true (neg_ℤ l) (marked marks row)) (with_true (neg_ℤ l) (denied (take i c))) (denied (take i c ++ l ∷ []))
          (Agree-with vars (marked marks row) (denied (take i c)) (neg_ℤ l) d.agree)
          (record { same = λ x wx. denied-push (take i c) l x }));
      kept = All-set (λ m. m ≤ row) marks (code_of (neg_ℤ l)) row (omega arith) d.kept;
    }))
  where
    or_false : (a b : Bool) → a ≡ false → b ≡ false → a || b ≡ false
    or_false true b x y = x
    or_false false b x y = y

-- a literal outside the variables, or one that was denied
pub refused-outside : (vars : ℕ) (c : List ℤ) (i : ℕ) (l : ℤ) → i < length c → l ≡ get_or c i l → vars ≤ place_of l → false ≡ list_all (is_within vars) c && not (has_both c)
refused-outside vars c i l lt at h =
    sym (and_left (list_all (is_within vars) c) (not (has_both c)) (list_all_at (is_within vars) c i l lt (ap (is_within vars) (sym at) ∙ is_within-not vars l h)))

pub refused-both : (vars : ℕ) (marks : List ℕ) (row : ℕ) (c : List ℤ) (i : ℕ) (l : ℤ) → Denies vars marks row (take i c) → i < length c → l ≡ get_or c i l → IsLiteral l → place_of l < vars → marked marks row l ≡ true → false ≡ list_all (is_within vars) c && not (has_both c)
refused-both vars marks row c i l d lt at lit below m =
    let w : IsWithin vars l = record { literal = lit; below = below } in
    let parts : take i c ++ l ∷ [] ≡ take (i + 1) c = ap (λ x. take i c ++ x ∷ []) at ∙ sym (take_more c i l lt) in
    let here : has_both (take (i + 1) c) ≡ true = ap has_both (sym parts) ∙ (has_both-push (take i c) l ∙ or_right (has_both (take i c)) (has (take i c) (neg_ℤ l)) (sym (d.agree.same l w) ∙ m)) in
    let all : has_both c ≡ true = ap has_both (sym (take-append-drop (i + 1) c)) ∙ has_both-left (take (i + 1) c) (drop (i + 1) c) here in
    sym (and_right (list_all (is_within vars) c) (not (has_both c)) (ap not all))

pub Denies-all : (vars : ℕ) (marks : List ℕ) (row : ℕ) (c : List ℤ) → Denies vars marks row c → true ≡ list_all (is_within vars) c && not (has_both c)
Denies-all vars marks row c d = sym (and_from (list_all (is_within vars) c) (not (has_both c)) d.within (ap not d.not_both))

-- the steps of a row's hints, from the hint at this place on
pub follow-end : (live : Live) (t : ℤ → Bool) (hs : List ℕ) (i : ℕ) → length hs ≤ i → follow live t (drop i hs) ≡ Some L5
follow-end live t hs i h = ap (follow live t) (drop_all i hs h)

pub follow-absent : (live : Live) (t : ℤ → Bool) (hs : List ℕ) (i : ℕ) → i < length hs → clause_of live (get_or hs i 0) ≡ None → follow live t (drop i hs) ≡ Some L3
follow-absent live t hs i lt e =
    ap (follow live t) (drop_more hs i 0 lt) ∙ ap (λ o. at_clause o (λ c. at_hint (hint_of t c) (λ l. follow live (with_true l t) (drop (i + 1) hs)))) e

follow-clause : (live : Live) (t : ℤ → Bool) (hs : List ℕ) (i : ℕ) (c : List ℤ) (h : Hint) → i < length hs → clause_of live (get_or hs i 0) ≡ Some c → hint_of t c ≡ h → follow live t (drop i hs) ≡ at_hint h (λ l. follow live (with_true l t) (drop (i + 1) hs))
follow-clause live t hs i c h lt e f =
    ap (follow live t) (drop_more hs i 0 lt)
    ∙ (ap (λ o. at_clause o (λ c. at_hint (hint_of t c) (λ l. follow live (with_true l t) (drop (i + 1) hs)))) e
    ∙ ap (λ k. at_hint k (λ l. follow live (with_true l t) (drop (i + 1) hs))) f)

pub follow-false : (live : Live) (t : ℤ → Bool) (hs : List ℕ) (i : ℕ) (c : List ℤ) → i < length hs → clause_of live (get_or hs i 0) ≡ Some c → hint_of t c ≡ False → follow live t (drop i hs) ≡ None
follow-false live t hs i c lt e f = follow-clause live t hs i c False lt e f

pub follow-other : (live : Live) (t : ℤ → Bool) (hs : List ℕ) (i : ℕ) (c : List ℤ) → i < length hs → clause_of live (get_or hs i 0) ≡ Some c → hint_of t c ≡ Other → follow live t (drop i hs) ≡ Some L4
follow-other live t hs i c lt e f = follow-clause live t hs i c Other lt e f

pub follow-unit : (vars : ℕ) (live : Live) (marks marks' : List ℕ) (row : ℕ) (hs : List ℕ) (i : ℕ) (c : List ℤ) (l : ℤ) → All (λ e. All (IsWithin vars) e.1) live → length marks ≡ 2 * vars → i < length hs → clause_of live (get_or hs i 0) ≡ Some c → hint_of (marked marks row) c ≡ OneLeft l → marks' ≡ set marks (code_of l) row → follow live (marked marks row) (drop i hs) ≡ follow live (marked marks' row) (drop (i + 1) hs)
follow-unit vars live marks marks' row hs i c l over n lt e f new =
    let s : Single (marked marks row) l c = tells-at (marked marks row) c (OneLeft l) f in
    let w : IsWithin vars l = all-has (IsWithin vars) c l (clause_of-within vars live (get_or hs i 0) c over e) s.member in
    follow-clause live (marked marks row) hs i c (OneLeft l) lt e f
    ∙ (sym (follow-agree vars live (marked (set marks (code_of l) row) row) (with_true l (marked marks row)) (drop (i + 1) hs) (record { each = over }) (Agree-mark vars marks row l n w))
    ∙ ap (λ m. follow live (marked m row) (drop (i + 1) hs)) (sym new))

-- the literal of a unit clause is within the variables
pub unit-within : (vars : ℕ) (t : ℤ → Bool) (c : List ℤ) (l : ℤ) → All (IsWithin vars) c → hint_of t c ≡ OneLeft l → IsWithin vars l
unit-within vars t c l w e = let s : Single t l c = tells-at t c (OneLeft l) e in all-has (IsWithin vars) c l w s.member

pub code-inside : (vars : ℕ) (marks : List ℕ) (l : ℤ) → length marks ≡ 2 * vars → IsWithin vars l → code_of l < length marks
code-inside vars marks l n w = let h : code_of l < 2 * vars = code_of-below vars l w in omega (arith, h, n)

-- the table's live clauses are over the variables
pub live_of-over : (vars : ℕ) (lits : List ℤ) (t : List Entry) → All (IsWithin vars) lits → All (λ e. All (IsWithin vars) e.1) (live_of lits t)
live_of-over vars lits t h =
    All-map (λ e. All (IsWithin vars) e.1) (entry_of lits) (filter (λ e. e.live) t)
    (λ k d lt. All-take (IsWithin vars) ((get_or (filter (λ e. e.live) t) k d).end - (get_or (filter (λ e. e.live) t) k d).start) (drop (get_or (filter (λ e. e.live) t) k d).start lits)
    (All-drop (IsWithin vars) (get_or (filter (λ e. e.live) t) k d).start lits h))

-- an addition whose literals are denied and whose id is new is refused where its hints are
pub add_fault-hints : (s : State) (id : ℕ) (c : List ℤ) (hints : List ℕ) (t : ℤ → Bool) → true ≡ list_all (is_within s.vars) c && not (has_both c) → s.last < id → All (λ e. All (IsWithin s.vars) e.1) s.live → Agree s.vars t (denied c) → follow s.live t hints ≡ add_fault s id c hints
add_fault-hints s id c hints t w lt over a =
    follow-agree s.vars s.live t (denied c) hints (record { each = over }) a
    ∙ (sym (cond-true (ltb s.last id) (follow s.live (denied c) hints) (Some L2) (lt-ltb s.last id lt))
    ∙ sym (cond-true (list_all (is_within s.vars) c && not (has_both c)) (cond (ltb s.last id) (follow s.live (denied c) hints) (Some L2)) (Some L1) (sym w)))
