-- Lists in which no element stands twice.
use Rattle.std.proofs.Common.{◌≡◌, ℕ, zero, suc, ◌<◌, true, false, List, [], ◌∷◌, length, get_or, refl, sym, ap, arith}
use Rattle.std.proofs.lemmas.Slice.Eq.{bytes_eq-Decides}
use Rattle.std.specs.Prelude.{bytes_eq}
use Rattle.std.specs.List.{IsDistinct, AllByRecursion}

-- equal elements stand at one place
abbrev pub AreDistinct : List (List ℕ) → Type 0
AreDistinct names = (i j : ℕ) → i < length names → j < length names → get_or names i [] ≡ get_or names j [] → i ≡ j

no_other : (x : List ℕ) (xs : List (List ℕ)) (k : ℕ) → AllByRecursion (λ y. bytes_eq x y ≡ false) xs → k < length xs → x ≡ get_or xs k [] → ⊥
no_other x [] k none low same = omega (arith, low)
no_other x (y ∷ xs) zero none low same = let e : bytes_eq x y ≡ true = (bytes_eq-Decides x y).1 same in let n = none.0 in cc
no_other x (y ∷ xs) (suc k) none low same = no_other x xs k none.1 (omega (arith, low)) same

pub distinct_places : (names : List (List ℕ)) → IsDistinct bytes_eq names → AreDistinct names
unfolding IsDistinct
distinct_places [] h i j low also same = absurd (omega (arith, low))
distinct_places (x ∷ xs) h zero zero low also same = refl
distinct_places (x ∷ xs) h zero (suc j) low also same = absurd (no_other x xs j h.0 (omega (arith, also)) same)
distinct_places (x ∷ xs) h (suc i) zero low also same = absurd (no_other x xs i h.0 (omega (arith, low)) (sym same))
distinct_places (x ∷ xs) h (suc i) (suc j) low also same = ap suc (distinct_places xs h.1 i j (omega (arith, low)) (omega (arith, also)) same)
