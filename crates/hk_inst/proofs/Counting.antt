-- Lists without repetition are no longer than lists that have their elements, and lists of all tuples.
use Rattle.std.proofs.Common.{◌≡◌, ◌⊎◌, inl, inr, ℕ, zero, suc, ◌+◌, ◌*◌, ◌<◌, ◌≤◌, List, [], ◌∷◌, ◌++◌, length, map, refl, sym, ◌∙◌, ap, subst, arith}
use Rattle.std.specs.List.{Contains}
use Rattle.std.proofs.lemmas.Bool.{cases_lt}
use Rattle.std.proofs.lemmas.List.{length-append, length-map}
use Rattle.std.proofs.lemmas.List.Elements.{Contains-append_left, Contains-append_right, Contains-append_cases}
use Rattle.hk_term.specs.declared.bounds.Bound.{Bound}
use Rattle.hk_copy.specs.Cost.{tuples}
use Rattle.hk_inst.specs.Truths.{IsTuple}
use Rattle.hk_inst.proofs.Members.{contains-cases, contains-head, contains-tail}

abbrev pub weigh : {X : Type 0} → (X → ℕ) → List X → ℕ
weigh w [] = 0
weigh w (x ∷ xs) = w x + weigh w xs

-- no two elements are the same
abbrev pub AreApart : {X : Type 0} → List X → Type 0
AreApart [] = Unit {0}
AreApart {X} (x ∷ xs) = ((y : X) → Contains xs y → x ≡ y → ⊥) × (AreApart xs)

module _ {X : Type 0} (w : X → ℕ) where
  pub weigh-append : (xs ys : List X) → weigh w (xs ++ ys) ≡ weigh w xs + weigh w ys
  weigh-append [] ys = omega arith
  weigh-append (x ∷ xs) ys = omega (arith, weigh-append xs ys)

  -- a list without one of its elements
  pub record Without (ys : List X) (x : X) : Type 0 where
    pub rest : List X
    pub weight : weigh w ys ≡ w x + weigh w rest
    pub others : (y : X) → Contains ys y → (x ≡ y → ⊥) → Contains rest y

  pub without : (ys : List X) (x : X) → Contains ys x → Without ys x
  without [] x (k, l, e) = absurd (omega (arith, l))
  without (z ∷ ys) x c = by (contains-cases z ys x c) (without ys x)
    where
      by : (z ≡ x) ⊎ (Contains ys x) → (Contains ys x → Without ys x) → Without (z ∷ ys) x
      by (inl e) go = record { rest = ys; weight = ap (λ y. w y + weigh w ys) e; others = λ y d off. other y off (contains-cases z ys y d) }
        where
          other : (y : X) → (x ≡ y → ⊥) → (z ≡ y) ⊎ (Contains ys y) → Contains ys y
          other y off (inl f) = absurd (off (sym e ∙ f))
          other y off (inr d) = d
      by (inr d) go = let r = go d in record { rest = z ∷ r.rest; weight = omega (arith, r.weight); others = λ y f off. other r y off (contains-cases z ys y f) }
        where
          other : (r : Without ys x) (y : X) → (x ≡ y → ⊥) → (z ≡ y) ⊎ (Contains ys y) → Contains (z ∷ r.rest) y
          other r y off (inl f) = subst (Contains (z ∷ r.rest)) f (contains-head z r.rest)
          other r y off (inr f) = contains-tail z r.rest y (r.others y f off)

  -- elements that are apart weigh no more than a list that has them
  pub weigh-le : (xs ys : List X) → AreApart xs → ((x : X) → Contains xs x → Contains ys x) → weigh w xs ≤ weigh w ys
  weigh-le [] ys apart all = omega arith
  weigh-le (x ∷ xs) ys apart all =
      let r = without ys x (all x (contains-head x xs)) in
      let rest = weigh-le xs r.rest apart.1 (λ y c. r.others y (all y (contains-tail x xs y c)) (apart.0 y c)) in
      omega (arith, r.weight, rest)

pub weigh-ones : {X : Type 0} (xs : List X) → weigh (λ x. 1) xs ≡ length xs
weigh-ones [] = refl
weigh-ones (x ∷ xs) = omega (arith, weigh-ones xs)

pub length-le : {X : Type 0} (xs ys : List X) → AreApart xs → ((x : X) → Contains xs x → Contains ys x) → length xs ≤ length ys
length-le xs ys apart all = omega (arith, weigh-le (λ x. 1) xs ys apart all, weigh-ones xs, weigh-ones ys)

-- so many elements that weigh no more than this
pub weigh-most : {X : Type 0} (w : X → ℕ) (most : ℕ) (xs : List X) → ((x : X) → Contains xs x → w x ≤ most) → weigh w xs ≤ length xs * most
weigh-most w most [] h = omega arith
weigh-most w most (x ∷ xs) h =
    let rest = weigh-most w most xs (λ y c. h y (contains-tail x xs y c)) in
    let one : (1 + length xs) * most ≡ most + length xs * most = grind arith in
    omega (arith, rest, h x (contains-head x xs), one)

pub apart-append : {X : Type 0} (xs ys : List X) → AreApart xs → AreApart ys → ((x : X) → Contains xs x → Contains ys x → ⊥) → AreApart (xs ++ ys)
apart-append [] ys a b off = b
apart-append {X} (x ∷ xs) ys a b off = (λ y c e. by y e (Contains-append_cases xs ys y c), apart-append xs ys a.1 b (λ y c d. off y (contains-tail x xs y c) d))
  where
    by : (y : X) → x ≡ y → (Contains xs y) ⊎ (Contains ys y) → ⊥
    by y e (inl c) = a.0 y c e
    by y e (inr c) = off x (contains-head x xs) (subst (Contains ys) (sym e) c)

-- ---- all of a kind

pub contains-map : {X Y : Type 0} (f : X → Y) (xs : List X) (x : X) → Contains xs x → Contains (map f xs) (f x)
contains-map f [] x (k, l, e) = absurd (omega (arith, l))
contains-map {X} {Y} f (z ∷ xs) x c = by (contains-cases z xs x c) (contains-map f xs x)
  where
    by : (z ≡ x) ⊎ (Contains xs x) → (Contains xs x → Contains (map f xs) (f x)) → Contains (f z ∷ map f xs) (f x)
    by (inl e) go = subst (Contains (f z ∷ map f xs)) (ap f e) (contains-head (f z) (map f xs))
    by (inr d) go = contains-tail (f z) (map f xs) (f x) (go d)

-- the numbers below one
abbrev pub below : ℕ → List ℕ
below zero = []
below (suc n) = n ∷ below n

pub length-below : (n : ℕ) → length (below n) ≡ n
length-below zero = refl
length-below (suc n) = ap suc (length-below n)

pub below-has : (n k : ℕ) → k < n → Contains (below n) k
below-has zero k l = absurd (omega (arith, l))
below-has (suc n) k l = by (cases_lt k n) (below-has n k)
  where
    by : (k < n) ⊎ (n ≤ k) → (k < n → Contains (below n) k) → Contains (n ∷ below n) k
    by (inl m) go = contains-tail n (below n) k (go m)
    by (inr m) go = subst (Contains (n ∷ below n)) (omega (arith, l, m)) (contains-head n (below n))

-- a function of each element of one list and each of another
abbrev pub each_with : {X Y Z : Type 0} → (X → Y → Z) → List X → List Y → List Z
each_with f [] ys = []
each_with f (x ∷ xs) ys = map (f x) ys ++ each_with f xs ys

pub length-each_with : {X Y Z : Type 0} (f : X → Y → Z) (xs : List X) (ys : List Y) → length (each_with f xs ys) ≡ length xs * length ys
length-each_with f [] ys = omega arith
length-each_with f (x ∷ xs) ys =
    let one : (1 + length xs) * length ys ≡ length ys + length xs * length ys = grind arith in
    omega (arith, length-append (map (f x) ys) (each_with f xs ys), length-map ys (f x), length-each_with f xs ys, one)

pub each_with-has : {X Y Z : Type 0} (f : X → Y → Z) (xs : List X) (ys : List Y) (x : X) (y : Y) → Contains xs x → Contains ys y → Contains (each_with f xs ys) (f x y)
each_with-has f [] ys x y (k, l, e) d = absurd (omega (arith, l))
each_with-has f (z ∷ xs) ys x y c d = by (contains-cases z xs x c) (λ h. each_with-has f xs ys x y h d)
  where
    by : (z ≡ x) ⊎ (Contains xs x) → (Contains xs x → Contains (each_with f xs ys) (f x y)) → Contains (map (f z) ys ++ each_with f xs ys) (f x y)
    by (inl e) go = Contains-append_left (map (f z) ys) (each_with f xs ys) (f x y) (subst (λ a. Contains (map (f z) ys) (f a y)) e (contains-map (f z) ys y d))
    by (inr h) go = Contains-append_right (map (f z) ys) (each_with f xs ys) (f x y) (go h)

-- all tuples of bound variables
abbrev pub all_tuples : List Bound → List (List ℕ)
all_tuples [] = [] ∷ []
all_tuples (b ∷ bs) = each_with (λ k ks. k ∷ ks) (below b.size) (all_tuples bs)

pub length-all_tuples : (bs : List Bound) → length (all_tuples bs) ≡ tuples bs
length-all_tuples [] = refl
length-all_tuples (b ∷ bs) = length-each_with (λ k ks. k ∷ ks) (below b.size) (all_tuples bs) ∙ (λ i. length-below b.size i * length-all_tuples bs i)

pub all_tuples-has : (bs : List Bound) (ks : List ℕ) → IsTuple bs ks → Contains (all_tuples bs) ks
all_tuples-has [] [] h = contains-head [] []
all_tuples-has [] (k ∷ ks) h = absurd h
all_tuples-has (b ∷ bs) [] h = absurd h
all_tuples-has (b ∷ bs) (k ∷ ks) h = each_with-has (λ j js. j ∷ js) (below b.size) (all_tuples bs) k ks (below-has b.size k h.0) (all_tuples-has bs ks h.1)
