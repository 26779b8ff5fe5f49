-- The trail and its levels, as the search goes on.
use Rattle.std.proofs.Common.{◌≡◌, ◌≢◌, ◌⊎◌, ℕ, zero, suc, ◌+◌, ◌-◌, ◌<◌, ◌≤◌, true, false, List, [], ◌∷◌, ◌++◌, length, take, get_or, ℤ, pos, neg_ℤ, sym, ◌∙◌, ap, subst, inl, inr, arith, length-append}
use Rattle.std.proofs.lemmas.Bool.{cases_lt, cases_eq, false_from_ne_true}
use Rattle.std.proofs.lemmas.List.{get_or-append-add, get_or_append_left, take-append-le, take_all, get_or-append_right, length_push, get_or_push, length-take-le, get_or-take, take-take, get_or_default}
use Rattle.std.proofs.lemmas.List.Elements.{All-push, All-take, All-nil, All-cons, All-weaker}
use Rattle.std.proofs.lemmas.List.Quantifiers.{all_pairs_push}
use Rattle.std.specs.List.{All, AllPairs, Contains}
use Rattle.hk_cnf.specs.declared.hint.Hint.TheVariants.{Unit as OneLeft, Other}
use Rattle.hk_cnf.specs.Literal.{IsWithin, place_of, has}
use Rattle.hk_cnf.specs.Hint.{hint_of}
use Rattle.hk_cnf.specs.Clauses.{Clauses}
use Rattle.hk_cnf.proofs.Tells.{hint-single, hint-several}
use Rattle.hk_cdcl.specs.Fresh.{AreQuiet, IsFresh}
use Rattle.hk_cdcl.specs.Path.{Path, AreApart, IsPath, IsReason, AreReasons, Extends, with_step, cut_at, lit_at, clause_at}
use Rattle.hk_cdcl.specs.Analysis.{IsAsserting, AreNamed}
use Rattle.hk_cdcl.specs.Searching.{IsLeveled, IsJump}
use Rattle.hk_cdcl.proofs.Places.{has-place, has-take, at-take, apart-at, apart-take, apart-consistent, place_of-neg, neg-neg}
use Rattle.hk_cdcl.proofs.Extending.{reason-append, extends-longer}

pub leveled-none : (clauses : Clauses) (vars : ℕ) → vars ≡ clauses.vars → IsLeveled clauses (record { vars = vars; lits = []; reasons = [] }) []
leveled-none clauses vars e =
    record {
      vars = e;
      reasons = λ n lt h. absurd (omega (arith, lt));
      quiet = All-nil (λ level. AreQuiet (has (take level [])) clauses.clauses);
      rising = λ i j d lt b. absurd (omega (arith, b));
      inside = All-nil (λ level. level < 0);
      decided = All-nil (λ level. get_or [] level 0 ≡ 0);
    }

-- quiet at the beginnings of levels, as the trail grows behind them
quiet-append : (clauses : List (List ℤ)) (lits more : List ℤ) (levels : List ℕ) → All (λ level. level < length lits) levels → All (λ level. AreQuiet (has (take level lits)) clauses) levels → All (λ level. AreQuiet (has (take level (lits ++ more))) clauses) levels
quiet-append clauses lits more levels inside h =
    λ k d lt. subst (λ ls. AreQuiet (has ls) clauses) (sym (take-append-le (get_or levels k d) lits more (let b : get_or levels k d < length lits = inside k d lt in omega (arith, b)))) (h k d lt)

pub leveled-extends : (clauses : Clauses) (p q : Path) (levels : List ℕ) → IsPath p → IsLeveled clauses p levels → Extends clauses.clauses p q → IsLeveled clauses q levels
leveled-extends clauses p q levels path h e =
    record {
      vars = e.vars ∙ h.vars;
      reasons = λ n lt a. subst (λ ls. IsReason clauses.clauses ls n (get_or q.reasons n 0)) (sym e.lits) (pick n lt a (cases_lt n (length p.lits)));
      quiet = subst (λ ls. All (λ level. AreQuiet (has (take level ls)) clauses.clauses) levels) (sym e.lits) (quiet-append clauses.clauses p.lits e.more levels h.inside h.quiet);
      rising = h.rising;
      inside = λ k d lt. let b : get_or levels k d < length p.lits = h.inside k d lt in let g : length p.lits ≤ length q.lits = extends-longer clauses.clauses p q e in omega (arith, b, g);
      decided = λ k d lt.
          let b : get_or levels k d < length p.lits = h.inside k d lt in
          let t : length p.reasons ≡ length p.lits = path.together in
          ap (λ rs. get_or rs (get_or levels k d) 0) e.reasons ∙ (get_or_append_left p.reasons e.more_reasons 0 (get_or levels k d) (omega (arith, t, b)) ∙ h.decided k d lt);
    }
  where
    long : length q.lits ≡ length p.lits + length e.more
    long = ap length e.lits ∙ length-append p.lits e.more

    pick : (n : ℕ) → n < length q.lits → All (λ level. level ≢ n) levels → (n < length p.lits) ⊎ (length p.lits ≤ n) → IsReason clauses.clauses (p.lits ++ e.more) n (get_or q.reasons n 0)
    pick n lt a (inl b) =
        let same : get_or q.reasons n 0 ≡ get_or p.reasons n 0 = ap (λ rs. get_or rs n 0) e.reasons ∙ get_or_append_left p.reasons e.more_reasons 0 n (let t : length p.reasons ≡ length p.lits = path.together in omega (arith, t, b)) in
        subst (IsReason clauses.clauses (p.lits ++ e.more) n) (sym same) (reason-append clauses.clauses p.lits e.more n (get_or p.reasons n 0) (h.reasons n b a) b)
    pick n lt a (inr b) =
        let same : get_or q.reasons n 0 ≡ get_or e.more_reasons (n - length p.lits) 0 = ap (λ rs. get_or rs n 0) e.reasons ∙ get_or-append_right p.reasons e.more_reasons (length p.lits) n 0 path.together b in
        let at : length p.lits + (n - length p.lits) ≡ n = omega (arith, b) in
        subst (IsReason clauses.clauses (p.lits ++ e.more) n) (sym same)
        (subst (λ ls. IsReason clauses.clauses ls n (get_or e.more_reasons (n - length p.lits) 0)) e.lits
        (subst (λ m. IsReason clauses.clauses q.lits m (get_or e.more_reasons (n - length p.lits) 0)) at (e.implied (n - length p.lits) (omega (arith, b, lt, long)))))

-- what holds of all of a longer list
all-front : (P : ℕ → Type 0) (xs : List ℕ) (x : ℕ) → All P (xs ++ x ∷ []) → All P xs × P x
all-front P xs x h = (
  λ k d lt. subst P (get_or_append_left xs (x ∷ []) d k lt) (h k d (let n : length (xs ++ x ∷ []) ≡ length xs + 1 = length_push xs x in omega (arith, lt, n))),
  subst P (get_or-append-add xs (x ∷ []) 0 0) (h (length xs + 0) 0 (let n : length (xs ++ x ∷ []) ≡ length xs + 1 = length_push xs x in omega (arith, n))),
)

pub leveled-decision : (clauses : Clauses) (p : Path) (levels : List ℕ) (l : ℤ) → IsPath p → IsLeveled clauses p levels → AreQuiet (has p.lits) clauses.clauses → IsLeveled clauses (with_step p l 0) (levels ++ length p.lits ∷ [])
leveled-decision clauses p levels l path h q =
    record {
      vars = h.vars;
      reasons = λ n lt a. pick n lt (all-front (λ level. level ≢ n) levels (length p.lits) a);
      quiet =
          All-push (λ level. AreQuiet (has (take level (p.lits ++ l ∷ []))) clauses.clauses) levels (length p.lits) (quiet-append clauses.clauses p.lits (l ∷ []) levels h.inside h.quiet)
          (subst (λ ls. AreQuiet (has ls) clauses.clauses) (sym (take-append-le (length p.lits) p.lits (l ∷ []) (omega arith) ∙ take_all (length p.lits) p.lits (omega arith))) q);
      rising = all_pairs_push (λ d e. d < e) levels (length p.lits) h.rising h.inside;
      inside =
          All-push (λ level. level < length (p.lits ++ l ∷ [])) levels (length p.lits)
          (λ k d lt. let b : get_or levels k d < length p.lits = h.inside k d lt in omega (arith, b, longer)) (omega (arith, longer));
      decided =
          All-push (λ level. get_or (p.reasons ++ 0 ∷ []) level 0 ≡ 0) levels (length p.lits)
          (λ k d lt. let b : get_or levels k d < length p.lits = h.inside k d lt in let t : length p.reasons ≡ length p.lits = path.together in get_or_append_left p.reasons (0 ∷ []) 0 (get_or levels k d) (omega (arith, t, b)) ∙ h.decided k d lt)
          (get_or_push p.reasons 0 0 (length p.lits) path.together);
    }
  where
    longer : length (p.lits ++ l ∷ []) ≡ length p.lits + 1
    longer = length_push p.lits l

    pick : (n : ℕ) → n < length (p.lits ++ l ∷ []) → All (λ level. level ≢ n) levels × (length p.lits ≢ n) → IsReason clauses.clauses (p.lits ++ l ∷ []) n (get_or (p.reasons ++ 0 ∷ []) n 0)
    pick n lt (a, d) =
        let b : n < length p.lits = omega (arith, lt, longer, d) in
        let same : get_or (p.reasons ++ 0 ∷ []) n 0 ≡ get_or p.reasons n 0 = get_or_append_left p.reasons (0 ∷ []) 0 n (let t : length p.reasons ≡ length p.lits = path.together in omega (arith, t, b)) in
        subst (IsReason clauses.clauses (p.lits ++ l ∷ []) n) (sym same) (reason-append clauses.clauses p.lits (l ∷ []) n (get_or p.reasons n 0) (h.reasons n b a) b)

-- what learning asks of the levels
pub level-first : (clauses : Clauses) (p : Path) (levels : List ℕ) (first : ℕ) → IsLeveled clauses p levels → 0 < length levels → first ≡ get_or levels 0 0 → AreReasons clauses.clauses p 0 first
level-first clauses p levels first h some e =
    record { each = λ n a lt. h.reasons n (bound n lt) (λ k d b. differs n lt k d b) }
  where
    bound : (n : ℕ) → n < first → n < length p.lits
    bound n lt = let b : get_or levels 0 0 < length p.lits = h.inside 0 0 some in omega (arith, b, lt, e)

    differs : (n : ℕ) → n < first → (k : ℕ) (d : ℕ) → k < length levels → get_or levels k d ≢ n
    differs n lt zero d b s = let g : get_or levels 0 d ≡ get_or levels 0 0 = get_or_default levels 0 d 0 some in omega (arith, s, g, e, lt)
    differs n lt (suc k) d b s = let r : get_or levels 0 d < get_or levels (suc k) d = h.rising 0 (suc k) d (omega arith) b in let g : get_or levels 0 d ≡ get_or levels 0 0 = get_or_default levels 0 d 0 some in omega (arith, s, r, g, e, lt)

pub level-last : (clauses : Clauses) (p : Path) (levels : List ℕ) (n below : ℕ) → IsLeveled clauses p levels → n + 1 ≡ length levels → below ≡ get_or levels n 0 → AreReasons clauses.clauses p (below + 1) (length p.lits)
level-last clauses p levels n below h last e =
    record { each = λ m a lt. h.reasons m lt (λ k d b. pick m a k d b (cases_lt k n)) }
  where
    here : (d : ℕ) → get_or levels n d ≡ below
    here d = get_or_default levels n d 0 (omega (arith, last)) ∙ sym e

    pick : (m : ℕ) → below + 1 ≤ m → (k : ℕ) (d : ℕ) → k < length levels → (k < n) ⊎ (n ≤ k) → get_or levels k d ≢ m
    pick m a k d b (inl lt) s = let r : get_or levels k d < get_or levels n d = h.rising k n d lt (omega (arith, last)) in let g : get_or levels n d ≡ below = here d in omega (arith, s, r, g, a)
    pick m a k d b (inr ge) s = let c : k ≡ n = omega (arith, b, ge, last) in let g : get_or levels n d ≡ below = here d in let t : get_or levels k d ≡ get_or levels n d = ap (λ i. get_or levels i d) c in omega (arith, s, t, g, a)

-- a place begins a level, or none begins there
decide-level : (levels : List ℕ) (n : ℕ) → Contains levels n ⊎ All (λ level. level ≢ n) levels
decide-level [] n = inr (All-nil (λ level. level ≢ n))
decide-level (l ∷ levels) n = step (decide-level levels n) (cases_eq l n)
  where
    step : Contains levels n ⊎ All (λ level. level ≢ n) levels → (l ≡ n) ⊎ (l ≢ n) → Contains (l ∷ levels) n ⊎ All (λ level. level ≢ n) (l ∷ levels)
    step r (inl e) = inl (0, omega arith, e)
    step (inl (k, lt, at)) (inr d) = inl (suc k, omega (arith, lt), at)
    step (inr a) (inr d) = inr (All-cons (λ level. level ≢ n) l levels d a)

-- each literal is a decision or has a reason
pub level-named : (clauses : Clauses) (p : Path) (levels : List ℕ) → IsLeveled clauses p levels → AreNamed clauses.clauses p
level-named clauses p levels h = record { each = λ n lt. pick n lt (decide-level levels n) }
  where
    pick : (n : ℕ) → n < length p.lits → Contains levels n ⊎ All (λ level. level ≢ n) levels → (get_or p.reasons n 0 ≡ 0) ⊎ IsReason clauses.clauses p.lits n (get_or p.reasons n 0)
    pick n lt (inl (k, b, at)) = inl (ap (λ i. get_or p.reasons i 0) (sym at) ∙ h.decided k n b)
    pick n lt (inr a) = inr (h.reasons n lt a)

pub level-none : (clauses : Clauses) (p : Path) → IsLeveled clauses p [] → AreReasons clauses.clauses p 0 (length p.lits)
level-none clauses p h = record { each = λ n a lt. h.reasons n lt (All-nil (λ level. level ≢ n)) }

-- a literal from a place on is unset before it, and so is its negation
unset-before : (vars : ℕ) (lits : List ℤ) (m n : ℕ) → AreApart lits → m ≤ n → n < length lits → has (take m lits) (lit_at lits n) ≡ false
unset-before vars lits m n apart le lt = false_from_ne_true (has (take m lits) (lit_at lits n)) (λ h.
    let a : (k : ℕ) × (k < m) × (lit_at lits k ≡ lit_at lits n) = at-take lits m (lit_at lits n) (omega (arith, le, lt)) (has-place (take m lits) (lit_at lits n) h) in
    let b : a.0 < m = a.1 in
    let s : a.0 ≡ n = apart-at lits a.0 n apart (omega (arith, b, le, lt)) lt (ap place_of a.2) in
    omega (arith, b, s, le))

unset-before-neg : (vars : ℕ) (lits : List ℤ) (m n : ℕ) → AreApart lits → m ≤ n → n < length lits → has (take m lits) (neg_ℤ (lit_at lits n)) ≡ false
unset-before-neg vars lits m n apart le lt = false_from_ne_true (has (take m lits) (neg_ℤ (lit_at lits n))) (λ h.
    let a : (k : ℕ) × (k < m) × (lit_at lits k ≡ neg_ℤ (lit_at lits n)) = at-take lits m (neg_ℤ (lit_at lits n)) (omega (arith, le, lt)) (has-place (take m lits) (neg_ℤ (lit_at lits n)) h) in
    let b : a.0 < m = a.1 in
    let s : a.0 ≡ n = apart-at lits a.0 n apart (omega (arith, b, le, lt)) lt (ap place_of a.2 ∙ place_of-neg (lit_at lits n)) in
    omega (arith, b, s, le))

-- the first literals of a clause that the trail has, as more of them are looked at
pub has-longer : (lits : List ℤ) (m n : ℕ) (x : ℤ) → m ≤ n → n ≤ length lits → has (take m lits) x ≡ true → has (take n lits) x ≡ true
has-longer lits m n x le b h =
    let a : (k : ℕ) × (k < m) × (lit_at lits k ≡ x) = at-take lits m x (omega (arith, le, b)) (has-place (take m lits) x h) in
    let lt : a.0 < m = a.1 in
    has-take lits n a.0 x (omega (arith, lt, le)) (omega (arith, lt, le, b)) a.2 b

-- the learned clause is unit at the end of the level to which the search goes back, so it is fresh
pub asserting-unit : (lits : List ℤ) (below rest target : ℕ) (c : List ℤ) → AreApart lits → (a : IsAsserting lits below rest c) → rest ≤ target → target ≤ below → hint_of (has (take target lits)) c ≡ OneLeft (neg_ℤ (lit_at lits a.uip))
asserting-unit lits below rest target c apart a lo hi =
    hint-single (has (take target lits)) (neg_ℤ (lit_at lits a.uip)) c (record {
      member = a.member;
      others = All-weaker (λ l. (l ≡ neg_ℤ (lit_at lits a.uip)) ⊎ (has (take rest lits) (neg_ℤ l) ≡ true)) (λ x. (neg_ℤ (lit_at lits a.uip) ≡ x) ⊎ (has (take target lits) (neg_ℤ x) ≡ true)) (λ x k. pick x k) c a.others;
      not_true = unset-before-neg 0 lits target a.uip apart le a.inside;
      not_false = ap (has (take target lits)) (neg-neg (lit_at lits a.uip)) ∙ unset-before 0 lits target a.uip apart le a.inside;
    })
  where
    le : target ≤ a.uip
    le = let b : below ≤ a.uip = a.after in omega (arith, b, hi)

    pick : (x : ℤ) → (x ≡ neg_ℤ (lit_at lits a.uip)) ⊎ (has (take rest lits) (neg_ℤ x) ≡ true) → (neg_ℤ (lit_at lits a.uip) ≡ x) ⊎ (has (take target lits) (neg_ℤ x) ≡ true)
    pick x (inl e) = inl (sym e)
    pick x (inr h) = inr (has-longer lits rest target (neg_ℤ x) lo (let b : a.uip < length lits = a.inside in omega (arith, le, b)) h)

pub asserting-fresh : (clauses : List (List ℤ)) (p : Path) (below rest target : ℕ) (c : List ℤ) → IsPath p → (a : IsAsserting p.lits below rest c) → rest ≤ target → target ≤ below → AreQuiet (has (take target p.lits)) clauses → IsFresh clauses c
asserting-fresh clauses p below rest target c path a lo hi q =
    record {
      truths = take target p.lits;
      literal = neg_ℤ (lit_at p.lits a.uip);
      consistent = λ l h. false_from_ne_true (has (take target p.lits) (neg_ℤ l)) (λ g. apart-consistent p.vars (take target p.lits) l (All-take (IsWithin p.vars) target p.lits path.within) (apart-take p.lits target le path.apart) h g);
      unit = asserting-unit p.lits below rest target c path.apart a lo hi;
      quiet = q;
    }
  where
    le : target ≤ length p.lits
    le = let b : below ≤ a.uip = a.after in let k : a.uip < length p.lits = a.inside in omega (arith, b, k, hi)

-- at the ends of the levels that are kept two of its literals are unset
pub asserting-quiet : (lits : List ℤ) (below rest level : ℕ) (c : List ℤ) → AreApart lits → IsAsserting lits below rest c → level < rest → hint_of (has (take level lits)) c ≡ Other
asserting-quiet lits below rest level c apart a lt = pick a.last
  where
    pick : (rest ≡ 0) ⊎ ((1 ≤ rest) × (has c (neg_ℤ (lit_at lits (rest - 1))) ≡ true)) → hint_of (has (take level lits)) c ≡ Other
    pick (inl e) = absurd (omega (arith, e, lt))
    pick (inr (one, m)) =
        let b : below ≤ a.uip = a.after in
        let r : rest ≤ below = a.bound in
        let k : a.uip < length lits = a.inside in
        hint-several (has (take level lits)) c (record {
          one = neg_ℤ (lit_at lits a.uip);
          two = neg_ℤ (lit_at lits (rest - 1));
          one_member = a.member;
          two_member = m;
          one_left = ap (has (take level lits)) (neg-neg (lit_at lits a.uip)) ∙ unset-before 0 lits level a.uip apart (omega (arith, lt, r, b)) k;
          two_left = ap (has (take level lits)) (neg-neg (lit_at lits (rest - 1))) ∙ unset-before 0 lits level (rest - 1) apart (omega (arith, lt, one)) (omega (arith, one, r, b, k));
          no_unit = inr (λ e.
              let s : a.uip ≡ rest - 1 = apart-at lits a.uip (rest - 1) apart k (omega (arith, one, r, b, k)) (sym (place_of-neg (lit_at lits a.uip)) ∙ (ap place_of e ∙ place_of-neg (lit_at lits (rest - 1)))) in
              omega (arith, s, one, r, b));
        })

reason-grown : (clauses : List (List ℤ)) (c : List ℤ) (lits : List ℤ) (target n id : ℕ) → n < target → IsReason clauses lits n id → IsReason (clauses ++ c ∷ []) (take target lits) n id
reason-grown clauses c lits target n id lt r =
    record {
      named = r.named;
      inside = let b : id ≤ length clauses = r.inside in let k : length (clauses ++ c ∷ []) ≡ length clauses + 1 = length_push clauses c in omega (arith, b, k);
      unit =
          ap (λ ls. hint_of (has ls) (clause_at (clauses ++ c ∷ []) id)) (take-take n target lits (omega (arith, lt)))
          ∙ (ap (hint_of (has (take n lits))) (get_or_append_left clauses (c ∷ []) [] (id - 1) (let a : 1 ≤ id = r.named in let b : id ≤ length clauses = r.inside in omega (arith, a, b)))
          ∙ (r.unit ∙ ap OneLeft (sym (get_or-take target lits n (pos 0) lt))));
    }

-- back to the end of level zero
reason-cut : (clauses : List (List ℤ)) (lits : List ℤ) (target n id : ℕ) → n < target → IsReason clauses lits n id → IsReason clauses (take target lits) n id
reason-cut clauses lits target n id lt r =
    record {
      named = r.named;
      inside = r.inside;
      unit = ap (λ ls. hint_of (has ls) (clause_at clauses id)) (take-take n target lits (omega (arith, lt))) ∙ (r.unit ∙ ap OneLeft (sym (get_or-take target lits n (pos 0) lt)));
    }

pub leveled-zero : (clauses : Clauses) (p : Path) (levels : List ℕ) (first : ℕ) → IsLeveled clauses p levels → 0 < length levels → first ≡ get_or levels 0 0 → IsLeveled clauses (cut_at p first) []
leveled-zero clauses p levels first h some e =
    record {
      vars = h.vars;
      reasons = λ n lt all. let b : n < first = omega (arith, lt, short) in
          subst (IsReason clauses.clauses (take first p.lits) n) (sym (get_or-take first p.reasons n 0 b)) (reason-cut clauses.clauses p.lits first n (get_or p.reasons n 0) b ((level-first clauses p levels first h some e).each n (omega arith) b));
      quiet = All-nil (λ level. AreQuiet (has (take level (take first p.lits))) clauses.clauses);
      rising = λ i j d lt b. absurd (omega (arith, b));
      inside = All-nil (λ level. level < length (take first p.lits));
      decided = All-nil (λ level. get_or (take first p.reasons) level 0 ≡ 0);
    }
  where
    short : length (take first p.lits) ≡ first
    short = length-take-le first p.lits (let b : get_or levels 0 0 < length p.lits = h.inside 0 0 some in omega (arith, b, e))

-- back to the end of an earlier level, with the learned clause
pub leveled-jump : (clauses : Clauses) (p : Path) (levels kept : List ℕ) (n below rest target : ℕ) (c : List ℤ) → IsPath p → IsLeveled clauses p levels → n + 1 ≡ length levels → below ≡ get_or levels n 0 → IsAsserting p.lits below rest c → IsJump levels kept rest target → IsLeveled (record clauses { clauses = clauses.clauses ++ c ∷ [] }) (cut_at p target) kept
leveled-jump clauses p levels kept n below rest target c path h last e a j =
    subst (IsLeveled (record clauses { clauses = clauses.clauses ++ c ∷ [] }) (cut_at p target)) (sym j.is) (record {
      vars = h.vars;
      reasons = λ m lt all. subst (IsReason (clauses.clauses ++ c ∷ []) (take target p.lits) m) (sym (get_or-take target p.reasons m 0 (below-target m lt))) (reason-grown clauses.clauses c p.lits target m (get_or p.reasons m 0) (below-target m lt) (h.reasons m (omega (arith, below-target m lt, target-inside)) (λ k d b. differs m (below-target m lt) all k d b)));
      quiet = λ k d lt. quiet k d lt;
      rising = λ i k d lt b.
          let bk : k < j.count = omega (arith, b, count-len) in
          let ik : i < j.count = omega (arith, bk, lt) in
          let ei : get_or (take j.count levels) i d ≡ get_or levels i d = get_or-take j.count levels i d ik in
          let ek : get_or (take j.count levels) k d ≡ get_or levels k d = get_or-take j.count levels k d bk in
          let r : get_or levels i d < get_or levels k d = h.rising i k d lt (let dr : j.count < length levels = j.dropped in omega (arith, bk, dr)) in
          omega (arith, ei, ek, r);
      inside = λ k d lt. let b : get_or (take j.count levels) k d < target = under k d lt in let t : length (take target p.lits) ≡ target = length-take-le target p.lits (omega (arith, target-inside)) in omega (arith, b, t);
      decided = λ k d lt.
          let b : k < j.count = omega (arith, lt, count-len) in
          get_or-take target p.reasons (get_or (take j.count levels) k d) 0 (under k d lt)
          ∙ (ap (λ i. get_or p.reasons i 0) (get_or-take j.count levels k d b) ∙ h.decided k d (omega (arith, b, dropped)));
    })
  where
    dropped : j.count < length levels
    dropped = j.dropped

    count-len : length (take j.count levels) ≡ j.count
    count-len = length-take-le j.count levels (omega (arith, dropped))

    target-is : (d : ℕ) → target ≡ get_or levels j.count d
    target-is d = j.target_is ∙ get_or_default levels j.count 0 d dropped

    target-inside : target < length p.lits
    target-inside = let b : get_or levels j.count 0 < length p.lits = h.inside j.count 0 dropped in let t : target ≡ get_or levels j.count 0 = j.target_is in omega (arith, b, t)

    below-target : (m : ℕ) → m < length (take target p.lits) → m < target
    below-target m lt = let t : length (take target p.lits) ≡ target = length-take-le target p.lits (omega (arith, target-inside)) in omega (arith, lt, t)

    under : (k : ℕ) (d : ℕ) → k < length (take j.count levels) → get_or (take j.count levels) k d < target
    under k d lt =
        let b : k < j.count = omega (arith, lt, count-len) in
        let s : get_or (take j.count levels) k d ≡ get_or levels k d = get_or-take j.count levels k d b in
        let r : get_or levels k d < get_or levels j.count d = h.rising k j.count d b dropped in
        let t : target ≡ get_or levels j.count d = target-is d in
        omega (arith, s, r, t)

    differs : (m : ℕ) → m < target → All (λ level. level ≢ m) (take j.count levels) → (k : ℕ) (d : ℕ) → k < length levels → get_or levels k d ≢ m
    differs m lt all k d b s = pick (cases_lt k j.count)
      where
        at : (j.count < k) ⊎ (k ≡ j.count) → ⊥
        at (inl g) = let r : get_or levels j.count d < get_or levels k d = h.rising j.count k d g b in let t : target ≡ get_or levels j.count d = target-is d in omega (arith, r, t, s, lt)
        at (inr g) = let r : get_or levels k d ≡ get_or levels j.count d = ap (λ i. get_or levels i d) g in let t : target ≡ get_or levels j.count d = target-is d in omega (arith, r, t, s, lt)

        split : j.count ≤ k → (j.count < k) ⊎ (k ≤ j.count) → ⊥
        split g (inl l) = at (inl l)
        split g (inr l) = at (inr (omega (arith, g, l)))

        pick : (k < j.count) ⊎ (j.count ≤ k) → ⊥
        pick (inl l) = all k d (omega (arith, l, count-len)) (get_or-take j.count levels k d l ∙ s)
        pick (inr g) = split g (cases_lt j.count k)

    quiet : (k : ℕ) (d : ℕ) → k < length (take j.count levels) → AreQuiet (has (take (get_or (take j.count levels) k d) (take target p.lits))) (clauses.clauses ++ c ∷ [])
    quiet k d lt =
        let b : k < j.count = omega (arith, lt, count-len) in
        let u : get_or (take j.count levels) k d < target = under k d lt in
        let s : get_or (take j.count levels) k d ≡ get_or levels k d = get_or-take j.count levels k d b in
        let r : get_or (take j.count levels) k d < rest = subst (All (λ level. level < rest)) j.is j.before k d lt in
        let same : take (get_or (take j.count levels) k d) (take target p.lits) ≡ take (get_or (take j.count levels) k d) p.lits = take-take (get_or (take j.count levels) k d) target p.lits (omega (arith, u)) in
        subst (λ ls. AreQuiet (has ls) (clauses.clauses ++ c ∷ [])) (sym same)
        (All-push (λ x. hint_of (has (take (get_or (take j.count levels) k d) p.lits)) x ≡ Other) clauses.clauses c
        (subst (λ i. AreQuiet (has (take i p.lits)) clauses.clauses) (sym s) (h.quiet k d (omega (arith, b, dropped))))
        (asserting-quiet p.lits below rest (get_or (take j.count levels) k d) c path.apart a r))

-- the learned clause is fresh
pub jump-fresh : (clauses : Clauses) (p : Path) (levels kept : List ℕ) (n below rest target : ℕ) (c : List ℤ) → IsPath p → IsLeveled clauses p levels → n + 1 ≡ length levels → below ≡ get_or levels n 0 → IsAsserting p.lits below rest c → IsJump levels kept rest target → IsFresh clauses.clauses c
jump-fresh clauses p levels kept n below rest target c path h last e a j =
    asserting-fresh clauses.clauses p below rest target c path a j.bound hi (subst (λ i. AreQuiet (has (take i p.lits)) clauses.clauses) (sym j.target_is) (h.quiet j.count 0 j.dropped))
  where
    pick : (j.count < n) ⊎ (n ≤ j.count) → target ≤ below
    pick (inl lt) = let r : get_or levels j.count 0 < get_or levels n 0 = h.rising j.count n 0 lt (omega (arith, last)) in let t : target ≡ get_or levels j.count 0 = j.target_is in omega (arith, r, t, e)
    pick (inr ge) = let b : j.count < length levels = j.dropped in let s : j.count ≡ n = omega (arith, ge, b, last) in let t : target ≡ get_or levels n 0 = j.target_is ∙ ap (λ i. get_or levels i 0) s in omega (arith, t, e)

    hi : target ≤ below
    hi = pick (cases_lt j.count n)

-- the levels before one that begins before `rest` do so too
pub levels-before : (levels : List ℕ) (count rest : ℕ) → AllPairs (λ d e. d < e) levels → count < length levels → 0 < count → get_or levels (count - 1) 0 < rest → All (λ level. level < rest) (take count levels)
levels-before levels count rest rising inside some lt = λ k d b.
    let n : length (take count levels) ≡ count = length-take-le count levels (omega (arith, inside)) in
    let c : k < count = omega (arith, b, n) in
    pick k d c (cases_lt k (count - 1))
  where
    last : (d : ℕ) → get_or levels (count - 1) d ≡ get_or levels (count - 1) 0
    last d = get_or_default levels (count - 1) d 0 (omega (arith, inside, some))

    pick : (k d : ℕ) → k < count → (k < count - 1) ⊎ (count - 1 ≤ k) → get_or (take count levels) k d < rest
    pick k d c (inl l) =
        let s : get_or (take count levels) k d ≡ get_or levels k d = get_or-take count levels k d c in
        let r : get_or levels k d < get_or levels (count - 1) d = rising k (count - 1) d l (omega (arith, inside, some)) in
        let e : get_or levels (count - 1) d ≡ get_or levels (count - 1) 0 = last d in
        omega (arith, s, r, e, lt)
    pick k d c (inr g) =
        let s : get_or (take count levels) k d ≡ get_or levels k d = get_or-take count levels k d c in
        let i : k ≡ count - 1 = omega (arith, g, c) in
        let t : get_or levels k d ≡ get_or levels (count - 1) d = ap (λ j. get_or levels j d) i in
        let e : get_or levels (count - 1) d ≡ get_or levels (count - 1) 0 = last d in
        omega (arith, s, t, e, lt)
