-- Literals at their places in a list, and lists without two literals of one variable.
use Rattle.std.proofs.Common.{◌≡◌, ◌≢◌, ◌⊎◌, ℕ, zero, suc, ◌+◌, ◌*◌, ◌<◌, ◌≤◌, true, false, ◌||◌, eqb, List, [], ◌∷◌, ◌++◌, map, length, take, get_or, ℤ, pos, negsuc, neg_ℤ, refl, sym, ◌∙◌, ap, subst, inl, inr, arith}
use Rattle.std.proofs.lemmas.Bool.{false≢true, cases_lt}
use Rattle.std.proofs.lemmas.Bool.Decides.{Decides-eqb}
use Rattle.std.proofs.lemmas.List.{get_or_default, get_or-map, length-map, get_or-take, length-take-le, take_more}
use Rattle.std.proofs.lemmas.List.Folds.{list_any_at, Any-from_list_any}
use Rattle.std.proofs.lemmas.List.Quantifiers.{all_pairs_push}
use Rattle.std.proofs.lemmas.Map.Steps.{length-le_from_distinct_below}
use Rattle.std.proofs.lemmas.Map.Made.{IsDistinct-from_AllPairs}
use Rattle.std.specs.List.{All, AllPairs, Any, list_any}
use Rattle.std.specs.Ordering.{int_eq}
use Rattle.hk_cnf.specs.Literal.{IsWithin, place_of, code_of, has}
use Rattle.hk_cnf.proofs.Members.{int_eq-refl, int_eq-is, has-append}
use Rattle.hk_cdcl.specs.Path.{AreApart, lit_at}

pub neg-neg : (l : ℤ) → neg_ℤ (neg_ℤ l) ≡ l
neg-neg (pos zero) = refl
neg-neg (pos (suc n)) = refl
neg-neg (negsuc n) = refl

pub place_of-neg : (l : ℤ) → place_of (neg_ℤ l) ≡ place_of l
place_of-neg (pos zero) = refl
place_of-neg (pos (suc n)) = refl
place_of-neg (negsuc n) = refl

pub neg-differs : (l : ℤ) → l ≢ pos 0 → l ≢ neg_ℤ l
neg-differs (pos zero) z e = z refl
neg-differs (pos (suc n)) z e = cc
neg-differs (negsuc n) z e = cc

pub neg-nonzero : (l : ℤ) → l ≢ pos 0 → neg_ℤ l ≢ pos 0
neg-nonzero l z e = z (sym (neg-neg l) ∙ ap neg_ℤ e)

-- two literals of one variable
pub place_of-same : (k l : ℤ) → k ≢ pos 0 → l ≢ pos 0 → place_of k ≡ place_of l → (k ≡ l) ⊎ (k ≡ neg_ℤ l)
place_of-same (pos zero) l a b e = absurd (a refl)
place_of-same (pos (suc m)) (pos zero) a b e = absurd (b refl)
place_of-same (pos (suc m)) (pos (suc n)) a b e = inl (ap (λ x. pos (suc x)) e)
place_of-same (pos (suc m)) (negsuc n) a b e = inr (ap (λ x. pos (suc x)) e)
place_of-same (negsuc m) (pos zero) a b e = absurd (b refl)
place_of-same (negsuc m) (pos (suc n)) a b e = inr (ap negsuc e)
place_of-same (negsuc m) (negsuc n) a b e = inl (ap negsuc e)

pub code_of-same : (k l : ℤ) → k ≢ pos 0 → l ≢ pos 0 → code_of k ≡ code_of l → k ≡ l
code_of-same (pos zero) l a b e = absurd (a refl)
code_of-same (pos (suc m)) (pos zero) a b e = absurd (b refl)
code_of-same (pos (suc m)) (pos (suc n)) a b e = ap (λ x. pos (suc x)) (omega arith)
code_of-same (pos (suc m)) (negsuc n) a b e = absurd (omega arith)
code_of-same (negsuc m) (pos zero) a b e = absurd (b refl)
code_of-same (negsuc m) (pos (suc n)) a b e = absurd (omega arith)
code_of-same (negsuc m) (negsuc n) a b e = ap negsuc (omega arith)

pub code_of-below : (vars : ℕ) (l : ℤ) → IsWithin vars l → code_of l < 2 * vars
code_of-below vars (pos zero) w = absurd (w.literal.nonzero refl)
code_of-below vars (pos (suc n)) w = let h : n < vars = w.below in omega (arith, h)
code_of-below vars (negsuc n) w = let h : n < vars = w.below in omega (arith, h)

pub within-neg : (vars : ℕ) (l : ℤ) → IsWithin vars l → IsWithin vars (neg_ℤ l)
within-neg vars (pos zero) w = w
within-neg vars (pos (suc n)) w = record { literal = record { nonzero = λ e. cc; small = w.literal.small }; below = w.below }
within-neg vars (negsuc n) w = record { literal = record { nonzero = λ e. cc; small = w.literal.small }; below = w.below }

-- a literal stands at a place of the list
pub record At (ls : List ℤ) (l : ℤ) : Type 0 where
  pub place : ℕ
  pub inside : place < length ls
  pub is : lit_at ls place ≡ l

pub has-at : (ls : List ℤ) (n : ℕ) → n < length ls → has ls (lit_at ls n) ≡ true
has-at ls n lt = list_any_at (int_eq (lit_at ls n)) ls n (pos 0) lt (int_eq-refl (lit_at ls n))

pub has-place : (ls : List ℤ) (l : ℤ) → has ls l ≡ true → At ls l
has-place ls l h = pick (Any-from_list_any (int_eq l) ls h)
  where
    pick : Any (λ x. int_eq l x ≡ true) ls → At ls l
    pick (k, x, lt, at, e) = record { place = k; inside = lt; is = get_or_default ls k (pos 0) x lt ∙ (at ∙ sym (int_eq-is l x e)) }

pub has-member : (ls : List ℤ) (n : ℕ) (l : ℤ) → n < length ls → lit_at ls n ≡ l → has ls l ≡ true
has-member ls n l lt e = subst (λ x. has ls x ≡ true) e (has-at ls n lt)

-- a literal of the first ones
pub has-take : (ls : List ℤ) (n p : ℕ) (l : ℤ) → p < n → p < length ls → lit_at ls p ≡ l → n ≤ length ls → has (take n ls) l ≡ true
has-take ls n p l a b e le =
    let k : length (take n ls) ≡ n = length-take-le n ls le in
    has-member (take n ls) p l (omega (arith, k, a)) (get_or-take n ls p (pos 0) a ∙ e)

pub at-take : (ls : List ℤ) (n : ℕ) (l : ℤ) → n ≤ length ls → At (take n ls) l → (p : ℕ) × (p < n) × (lit_at ls p ≡ l)
at-take ls n l le a =
    let k : length (take n ls) ≡ n = length-take-le n ls le in
    let lt : a.place < n = let h : a.place < length (take n ls) = a.inside in omega (arith, k, h) in
    (a.place, lt, sym (get_or-take n ls a.place (pos 0) lt) ∙ a.is)

-- with one more literal
pub has-more : (ls : List ℤ) (n : ℕ) (l : ℤ) → n < length ls → has (take (n + 1) ls) l ≡ (has (take n ls) l || (int_eq l (lit_at ls n) || false))
has-more ls n l lt = ap (λ x. has x l) (take_more ls n (pos 0) lt) ∙ has-append (take n ls) (lit_at ls n ∷ []) l

-- the place of a literal is the only one with its variable
pub apart-at : (ls : List ℤ) (m n : ℕ) → AreApart ls → m < length ls → n < length ls → place_of (lit_at ls m) ≡ place_of (lit_at ls n) → m ≡ n
apart-at ls m n h a b e = pick (cases_lt m n)
  where
    after : (n < m) ⊎ (m ≤ n) → n ≤ m → m ≡ n
    after (inl lt) le = absurd (h n m (pos 0) lt a (sym e))
    after (inr k) le = omega (arith, k, le)

    pick : (m < n) ⊎ (n ≤ m) → m ≡ n
    pick (inl lt) = absurd (h m n (pos 0) lt b e)
    pick (inr le) = after (cases_lt n m) le

lit-within : (vars : ℕ) (ls : List ℤ) (n : ℕ) → All (IsWithin vars) ls → n < length ls → IsWithin vars (lit_at ls n)
lit-within vars ls n h lt = h n (pos 0) lt

-- a literal and its negation are not both there
pub apart-consistent : (vars : ℕ) (ls : List ℤ) (l : ℤ) → All (IsWithin vars) ls → AreApart ls → has ls l ≡ true → has ls (neg_ℤ l) ≡ true → ⊥
apart-consistent vars ls l w h a b =
    let p : At ls l = has-place ls l a in
    let q : At ls (neg_ℤ l) = has-place ls (neg_ℤ l) b in
    let same : p.place ≡ q.place = apart-at ls p.place q.place h p.inside q.inside (ap place_of p.is ∙ (sym (place_of-neg l) ∙ ap place_of (sym q.is))) in
    let z : l ≢ pos 0 = subst (λ x. x ≢ pos 0) p.is (lit-within vars ls p.place w p.inside).literal.nonzero in
    neg-differs l z (sym p.is ∙ (ap (lit_at ls) same ∙ q.is))

-- a literal whose variable is not set stands apart from the others
pub apart-new : (vars : ℕ) (ls : List ℤ) (l : ℤ) (n : ℕ) → All (IsWithin vars) ls → IsWithin vars l → has ls l ≡ false → has ls (neg_ℤ l) ≡ false → n < length ls → place_of (lit_at ls n) ≢ place_of l
apart-new vars ls l n w wl a b lt e = pick (place_of-same (lit_at ls n) l (lit-within vars ls n w lt).literal.nonzero wl.literal.nonzero e)
  where
    pick : (lit_at ls n ≡ l) ⊎ (lit_at ls n ≡ neg_ℤ l) → ⊥
    pick (inl s) = false≢true (sym a ∙ has-member ls n l lt s)
    pick (inr s) = false≢true (sym b ∙ has-member ls n (neg_ℤ l) lt s)

pub apart-push : (vars : ℕ) (ls : List ℤ) (l : ℤ) → AreApart ls → All (IsWithin vars) ls → IsWithin vars l → has ls l ≡ false → has ls (neg_ℤ l) ≡ false → AreApart (ls ++ l ∷ [])
apart-push vars ls l h w wl a b =
    all_pairs_push (λ k m. place_of k ≢ place_of m) ls l h
    (λ n d lt. subst (λ x. place_of x ≢ place_of l) (get_or_default ls n (pos 0) d lt) (apart-new vars ls l n w wl a b lt))

pub apart-take : (ls : List ℤ) (n : ℕ) → n ≤ length ls → AreApart ls → AreApart (take n ls)
apart-take ls n le h = λ i j d lt b.
    let k : length (take n ls) ≡ n = length-take-le n ls le in
    let jn : j < n = omega (arith, k, b) in
    let i_n : i < n = omega (arith, jn, lt) in
    let il : get_or (take n ls) i d ≡ get_or ls i d = get_or-take n ls i d i_n in
    let jl : get_or (take n ls) j d ≡ get_or ls j d = get_or-take n ls j d jn in
    λ e. h i j d lt (omega (arith, jn, le)) (ap place_of (sym il) ∙ (e ∙ ap place_of jl))

-- at most as many literals as variables
pub apart-count : (vars : ℕ) (ls : List ℤ) → AreApart ls → All (IsWithin vars) ls → length ls ≤ vars
apart-count vars ls h w =
    subst (λ n. n ≤ vars) (length-map ls place_of)
    (length-le_from_distinct_below (map place_of ls) vars (IsDistinct-from_AllPairs {eq = eqb} Decides-eqb (map place_of ls) pairs) below)
  where
    pairs : AllPairs (λ x y. x ≢ y) (map place_of ls)
    pairs = λ i j d lt b e.
        let bj : j < length ls = subst (λ n. j < n) (length-map ls place_of) b in
        let bi : i < length ls = omega (arith, lt, bj) in
        h i j (pos 0) lt bj (sym (get_or-map place_of ls i (pos 0) d bi) ∙ (e ∙ get_or-map place_of ls j (pos 0) d bj))

    found : (q : ℕ) → Any (λ x. eqb q x ≡ true) (map place_of ls) → q < vars
    found q (k, x, lt, at, e) =
        let b : k < length ls = subst (λ n. k < n) (length-map ls place_of) lt in
        let is : place_of (lit_at ls k) ≡ x = sym (get_or-map place_of ls k (pos 0) x b) ∙ at in
        let same : q ≡ x = (Decides-eqb q x).0 e in
        subst (λ y. y < vars) (is ∙ sym same) (lit-within vars ls k w b).below

    below : (q : ℕ) → list_any (eqb q) (map place_of ls) ≡ true → q < vars
    below q m = found q (Any-from_list_any (eqb q) (map place_of ls) m)
