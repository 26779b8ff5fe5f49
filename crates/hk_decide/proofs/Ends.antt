-- Lists with one element more at their end.
use Rattle.std.proofs.Common.{◌≡◌, ◌⊎◌, inl, inr, ◌+◌, ◌<◌, ◌≤◌, ℕ, zero, suc, Some, None, Option, unwrap_or, List, [], ◌∷◌, ◌++◌, length, take, drop, refl, sym, ap, ◌∙◌, subst, arith, add-one}
use Rattle.std.specs.Prelude.{All, slice_get}
use Rattle.std.proofs.Math.Seq.{take-append_seam, drop-append-add}
use Rattle.std.proofs.lemmas.List.{take-append-drop, take-append-le, drop-append-le}
use Rattle.std.proofs.lemmas.List.Elements.{All-append, All-cons, All-nil}
use Rattle.std.proofs.lemmas.Option.{slice_get_within}

pub all_one_more : {X : Type 0} (P : X → Type 0) (xs : List X) (x : X) → All P xs → P x → All P (xs ++ x ∷ [])
all_one_more P xs x all p = All-append P xs (x ∷ []) all (All-cons P x [] p (All-nil P))

-- an earlier element stands where it stood, and the new one behind all others
pub get_earlier : {X : Type 0} (xs : List X) (x y : X) (k : ℕ) → slice_get xs k ≡ Some y → slice_get (xs ++ x ∷ []) k ≡ Some y
get_earlier [] x y k there = absurd (none_is_not y there)
  where
    none_is_not : {X : Type 0} (y : X) → None ≡ Some y → ⊥
    none_is_not y e = cc
get_earlier (z ∷ xs) x y zero there = there
get_earlier (z ∷ xs) x y (suc k) there = get_earlier xs x y k there

pub get_last : {X : Type 0} (xs : List X) (x : X) → slice_get (xs ++ x ∷ []) (length xs) ≡ Some x
get_last [] x = refl
get_last (z ∷ xs) x = get_last xs x

-- an element is an earlier one or the new one
pub get_either : {X : Type 0} (xs : List X) (x y : X) (k : ℕ) → slice_get (xs ++ x ∷ []) k ≡ Some y → (slice_get xs k ≡ Some y) ⊎ ((k ≡ length xs) × (x ≡ y))
get_either [] x y zero there = inr (refl, ap (unwrap_or_is x) there)
  where
    unwrap_or_is : {X : Type 0} (x : X) → Option X → X
    unwrap_or_is x (Some y) = y
    unwrap_or_is x None = x
get_either [] x y (suc k) there = absurd (none_is_not y there)
  where
    none_is_not : {X : Type 0} (y : X) → None ≡ Some y → ⊥
    none_is_not y e = cc
get_either (z ∷ xs) x y zero there = inl there
get_either (z ∷ xs) x y (suc k) there = by (get_either xs x y k there)
  where
    by : (slice_get xs k ≡ Some y) ⊎ ((k ≡ length xs) × (x ≡ y)) → (slice_get xs k ≡ Some y) ⊎ ((suc k ≡ suc (length xs)) × (x ≡ y))
    by (inl e) = inl e
    by (inr e) = inr (ap suc e.0, e.1)

-- what stands before an earlier element, and behind it
pub before_earlier : {X : Type 0} (xs : List X) (x y : X) (k : ℕ) → slice_get xs k ≡ Some y → take k (xs ++ x ∷ []) ≡ take k xs
before_earlier xs x y k there = let low = slice_get_within xs k y there in take-append-le k xs (x ∷ []) (omega (arith, low))

pub behind_earlier : {X : Type 0} (xs : List X) (x y : X) (k : ℕ) → slice_get xs k ≡ Some y → drop (k + 1) (xs ++ x ∷ []) ≡ drop (k + 1) xs ++ x ∷ []
behind_earlier xs x y k there = let low = slice_get_within xs k y there in drop-append-le (k + 1) xs (x ∷ []) (omega (arith, low))

-- what stands before the new one, and behind it
pub before_last : {X : Type 0} (xs : List X) (x : X) → take (length xs) (xs ++ x ∷ []) ≡ xs
before_last xs x = take-append_seam xs (x ∷ [])

pub behind_last : {X : Type 0} (xs : List X) (x : X) → drop (length xs + 1) (xs ++ x ∷ []) ≡ []
behind_last xs x = drop-append-add xs (x ∷ []) 1

-- what holds before a place, there and behind it holds of all
pub all_around : {X : Type 0} (P : X → Type 0) (xs : List X) (y : X) (k : ℕ) → slice_get xs k ≡ Some y → All P (take k xs) → P y → All P (drop (k + 1) xs) → All P xs
all_around P xs y k there before here behind =
    subst (All P) (parts xs k y there) (All-append P (take k xs) (y ∷ drop (suc k) xs) before (All-cons P y (drop (suc k) xs) here (subst (λ n. All P (drop n xs)) (add-one k) behind)))
  where
    parts : {X : Type 0} (xs : List X) (k : ℕ) (y : X) → slice_get xs k ≡ Some y → take k xs ++ y ∷ drop (suc k) xs ≡ xs
    parts [] k y there = absurd cc
    parts (z ∷ xs) zero y there = let e : z ≡ y = cc in ap (λ w. w ∷ xs) (sym e)
    parts (z ∷ xs) (suc k) y there = ap (λ w. z ∷ w) (parts xs k y there)
