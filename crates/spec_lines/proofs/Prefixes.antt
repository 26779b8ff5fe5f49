-- How a name begins.
use Rattle.std.proofs.Common.{◌≡◌, ℕ, false, ◌≤◌, List, [], ◌∷◌, length, refl, ap, arith}
use Rattle.std.specs.Prelude.{◌&&◌, ◌==◌}
use Rattle.std.specs.List.{starts_with}
use Rattle.spec_expr.specs.Words.{Text, begins_with}
use Rattle.spec_read.specs.Places.{are_same}

pub starts_is : (text front : List ℕ) → starts_with (λ x y. x == y) text front ≡ begins_with front text
starts_is text [] = refl
starts_is [] (b ∷ front) = refl
starts_is (c ∷ text) (b ∷ front) = ap (λ r. (b == c) && r) (starts_is text front)

pub some_names : (names : List Text) → 1 ≤ length names → are_same names [] ≡ false
some_names [] some = absurd (omega (arith, some))
some_names (x ∷ xs) some = refl
