-- The first place at which a test passes, of a list that is gone through.
use Rattle.std.proofs.Common.{◌≡◌, ◌+◌, ◌<◌, ℕ, zero, suc, Bool, true, false, cond, Some, List, [], ◌∷◌, length, drop, refl, sym, ap, ◌∙◌, arith, add-one}
use Rattle.std.specs.Prelude.{slice_get}
use Rattle.std.specs.List.{position, position_from}
use Rattle.std.proofs.lemmas.Iterator.Adapters.{position_from-zero}

pub found_there : {X : Type 0} (xs : List X) (i : ℕ) → i < length xs → (x : X) × (slice_get xs i ≡ Some x) × (drop i xs ≡ x ∷ drop (suc i) xs)
found_there [] i low = absurd (omega (arith, low))
found_there (x ∷ xs) zero low = (x, refl, refl)
found_there (x ∷ xs) (suc i) low = found_there xs i (omega (arith, low))

-- what is left has its first place where the whole list has it
abbrev pub IsLeft : {X : Type 0} → (X → Bool) → List X → ℕ → Type 0
IsLeft p xs i = position_from p i (drop i xs) ≡ position p xs

pub all_left : {X : Type 0} (p : X → Bool) (xs : List X) → IsLeft p xs 0
all_left p xs = sym (position_from-zero p xs)

here : {X : Type 0} (p : X → Bool) (xs : List X) (i : ℕ) (b : Bool) → i < length xs → ((x : X) → slice_get xs i ≡ Some x → p x ≡ b) → IsLeft p xs i → cond b (Some i) (position_from p (i + 1) (drop (i + 1) xs)) ≡ position p xs
here p xs i b low is left =
    let x = found_there xs i low in
    ap (λ k. cond b (Some i) (position_from p (i + 1) (drop k xs))) (add-one i)
    ∙ ap (λ c. cond c (Some i) (position_from p (i + 1) (drop (suc i) xs))) (sym (is x.0 x.1))
    ∙ ap (position_from p i) (sym x.2) ∙ left

pub one_less : {X : Type 0} (p : X → Bool) (xs : List X) (i : ℕ) → i < length xs → ((x : X) → slice_get xs i ≡ Some x → p x ≡ false) → IsLeft p xs i → IsLeft p xs (i + 1)
one_less p xs i low is left = here p xs i false low is left

pub is_first : {X : Type 0} (p : X → Bool) (xs : List X) (i : ℕ) → i < length xs → ((x : X) → slice_get xs i ≡ Some x → p x ≡ true) → IsLeft p xs i → Some i ≡ position p xs
is_first p xs i low is left = here p xs i true low is left
