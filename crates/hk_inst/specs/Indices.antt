-- Equality of lists of numbers is equality of the numbers.
use Rattle.std.specs.Prelude.{◌≡◌, ℕ, true, nat_eq, List}
use Rattle.std.proofs.lemmas.Bool.{eqb-true, eq-eqb}
use Rattle.std.specs.Cmp.Lexicographic.{pointwise, pointwise_decides}

pub numbers_same : (xs ys : List ℕ) → pointwise nat_eq xs ys ≡ true → xs ≡ ys
numbers_same xs ys e = (pointwise_decides (λ x y. (eqb-true x y, eq-eqb x y)) xs ys).0 e
