-- Lists in which no name stands twice, one name at a time.
use Rattle.std.proofs.Common.{◌≡◌, ℕ, ◌+◌, Bool, true, false, cond, List, [], ◌∷◌, ◌++◌, map, Some, refl, sym, ap}
use Rattle.std.proofs.lemmas.Slice.Eq.{bytes_eq-Decides}
use Rattle.std.specs.Prelude.{bytes_eq, is_some}
use Rattle.std.specs.List.{IsDistinct, AllByRecursion, position_from}
use Rattle.hk_cert_law.proofs.Each.{Each}

-- no earlier name is this one
abbrev pub IsNone : List ℕ → List (List ℕ) → Type 0
IsNone x names = Each (λ y. bytes_eq y x ≡ false) names

all_push : (x y : List ℕ) (names : List (List ℕ)) → AllByRecursion (λ z. bytes_eq x z ≡ false) names → bytes_eq x y ≡ false → AllByRecursion (λ z. bytes_eq x z ≡ false) (names ++ y ∷ [])
all_push x y [] all last = (last, tt)
all_push x y (z ∷ names) all last = (all.0, all_push x y names all.1 last)

pub distinct_push : (names : List (List ℕ)) (x : List ℕ) → IsDistinct bytes_eq names → IsNone x names → IsDistinct bytes_eq (names ++ x ∷ [])
unfolding IsDistinct
distinct_push [] x h none = (tt, tt)
distinct_push (y ∷ names) x h none = (all_push y x names h.0 none.0, distinct_push names x h.1 none.1)

pub distinct_none : IsDistinct bytes_eq []
unfolding IsDistinct
distinct_none = tt

pub other_way : (a b : List ℕ) → bytes_eq a b ≡ false → bytes_eq b a ≡ false
other_way a b h = by (bytes_eq b a) refl
  where
    by : (t : Bool) → bytes_eq b a ≡ t → t ≡ false
    by true e = let same : bytes_eq a b ≡ true = (bytes_eq-Decides a b).1 (sym ((bytes_eq-Decides b a).0 e)) in absurd (cc (same, h))
    by false e = refl

-- a name that has no place is none
pub no_place : (x : List ℕ) (k : ℕ) (names : List (List ℕ)) → is_some (position_from (bytes_eq x) k names) ≡ false → IsNone x names
no_place x k [] h = tt
no_place x k (y ∷ names) h = by (bytes_eq x y) refl h (λ rest. no_place x (k + 1) names rest)
  where
    by : (t : Bool) → bytes_eq x y ≡ t → is_some (cond t (Some k) (position_from (bytes_eq x) (k + 1) names)) ≡ false → (is_some (position_from (bytes_eq x) (k + 1) names) ≡ false → IsNone x names)
        → (bytes_eq y x ≡ false) × Each (λ z. bytes_eq z x ≡ false) names
    by true e h next = absurd (cc h)
    by false e h next = (other_way x y e, next h)

pub map_push : {X Y : Type 0} (f : X → Y) (xs : List X) (x : X) → map f (xs ++ x ∷ []) ≡ map f xs ++ f x ∷ []
map_push f [] x = refl
map_push f (y ∷ xs) x = ap (λ l. f y ∷ l) (map_push f xs x)
