-- Whether some element passes a test.
use Rattle.std.proofs.Common.{◌≡◌, ◌⊎◌, inl, inr, zero, suc, Bool, true, false, ◌||◌, List, [], ◌∷◌, ◌++◌, map, refl, sym, ◌∙◌, ap, subst, arith}
use Rattle.std.specs.Prelude.{flat_map}
use Rattle.std.specs.List.{Contains, list_any}
use Rattle.std.proofs.lemmas.Bool.{or_cases, or_left, or_right, false≢true}
use Rattle.std.proofs.lemmas.List.Elements.{Contains-append_left, Contains-append_right, Contains-append_cases}

or_assoc : (a b c : Bool) → ((a || b) || c) ≡ (a || (b || c))
or_assoc true b c = refl
or_assoc false b c = refl

pub any_append : {X : Type 0} (p : X → Bool) (xs ys : List X) → list_any p (xs ++ ys) ≡ (list_any p xs || list_any p ys)
any_append p [] ys = refl
any_append p (x ∷ xs) ys = ap (λ b. p x || b) (any_append p xs ys) ∙ sym (or_assoc (p x) (list_any p xs) (list_any p ys))

pub any_flat : {X Y : Type 0} (p : Y → Bool) (f : X → List Y) (xs : List X) → list_any p (flat_map f xs) ≡ list_any (λ x. list_any p (f x)) xs
any_flat p f [] = refl
any_flat p f (x ∷ xs) = any_append p (f x) (flat_map f xs) ∙ ap (λ b. list_any p (f x) || b) (any_flat p f xs)

pub any_map : {X Y : Type 0} (p : Y → Bool) (f : X → Y) (xs : List X) → list_any p (map f xs) ≡ list_any (λ x. p (f x)) xs
any_map p f [] = refl
any_map p f (x ∷ xs) = ap (λ b. p (f x) || b) (any_map p f xs)

-- a test that all share
pub any_shared : {X : Type 0} (c : Bool) (p : X → Bool) (x : X) (xs : List X) → list_any (λ y. c || p y) (x ∷ xs) ≡ (c || list_any p (x ∷ xs))
any_shared true p x xs = refl
any_shared false p x xs = refl

pub here : {X : Type 0} (x : X) (xs : List X) → Contains (x ∷ xs) x
here x xs = (0, omega arith, refl)

pub behind : {X : Type 0} (x y : X) (xs : List X) → Contains xs y → Contains (x ∷ xs) y
behind x y xs (k, l, e) = (suc k, omega (arith, l), e)

pub split : {X : Type 0} (x y : X) (xs : List X) → Contains (x ∷ xs) y → (x ≡ y) ⊎ Contains xs y
split x y xs (zero, l, e) = inl e
split x y xs (suc k, l, e) = inr (k, omega (arith, l), e)

pub any_has : {X : Type 0} (p : X → Bool) (xs : List X) → list_any p xs ≡ true → (x : X) × Contains xs x × (p x ≡ true)
any_has p [] e = absurd (false≢true e)
any_has {X} p (x ∷ xs) e = pick (or_cases (p x) (list_any p xs) e) (λ h. any_has p xs h)
  where
    pick : (p x ≡ true) ⊎ (list_any p xs ≡ true) → (list_any p xs ≡ true → (y : X) × Contains xs y × (p y ≡ true)) → (y : X) × Contains (x ∷ xs) y × (p y ≡ true)
    pick (inl h) rest = (x, here x xs, h)
    pick (inr h) rest = let r = rest h in (r.0, behind x r.0 xs r.1, r.2)

pub has_any : {X : Type 0} (p : X → Bool) (xs : List X) (x : X) → Contains xs x → p x ≡ true → list_any p xs ≡ true
has_any p [] x (k, l, e) h = absurd (omega (arith, l))
has_any p (y ∷ ys) x c h = pick (split y x ys c) (λ d. has_any p ys x d h)
  where
    pick : (y ≡ x) ⊎ Contains ys x → (Contains ys x → list_any p ys ≡ true) → (p y || list_any p ys) ≡ true
    pick (inl e) rest = or_left (p y) (list_any p ys) (ap p e ∙ h)
    pick (inr d) rest = or_right (p y) (list_any p ys) (rest d)

pub flat_has : {X Y : Type 0} (f : X → List Y) (xs : List X) (y : Y) → Contains (flat_map f xs) y → (x : X) × Contains xs x × Contains (f x) y
flat_has f [] y (k, l, e) = absurd (omega (arith, l))
flat_has {X} f (x ∷ xs) y c = pick (Contains-append_cases (f x) (flat_map f xs) y c) (λ d. flat_has f xs y d)
  where
    pick : Contains (f x) y ⊎ Contains (flat_map f xs) y → (Contains (flat_map f xs) y → (z : X) × Contains xs z × Contains (f z) y) → (z : X) × Contains (x ∷ xs) z × Contains (f z) y
    pick (inl d) rest = (x, here x xs, d)
    pick (inr d) rest = let r = rest d in (r.0, behind x r.0 xs r.1, r.2)

pub has_flat : {X Y : Type 0} (f : X → List Y) (xs : List X) (x : X) (y : Y) → Contains xs x → Contains (f x) y → Contains (flat_map f xs) y
has_flat f [] x y (k, l, e) d = absurd (omega (arith, l))
has_flat f (z ∷ zs) x y c d = pick (split z x zs c) (λ e. has_flat f zs x y e d)
  where
    pick : (z ≡ x) ⊎ Contains zs x → (Contains zs x → Contains (flat_map f zs) y) → Contains (f z ++ flat_map f zs) y
    pick (inl e) rest = Contains-append_left (f z) (flat_map f zs) y (subst (λ w. Contains (f w) y) (sym e) d)
    pick (inr e) rest = Contains-append_right (f z) (flat_map f zs) y (rest e)
