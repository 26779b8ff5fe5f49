-- Rows that are looked up, and kinds that are told.
use Rattle.std.proofs.Common.{◌≡◌, Option, Some, None, option_map, refl, ap, arith}
use Rattle.std.specs.Prelude.{ℕ, zero, suc, List, [], ◌∷◌, map, slice_get}
use Rattle.spec_scope.specs.declared.meaning.Kind.{Kind}
use Rattle.spec_scope.specs.declared.meaning.Kind.TheVariants.{Truth, Number}
use Rattle.spec_scope.specs.Taking.{chain}
use Rattle.spec_take.specs.Told.{told}
use Rattle.spec_lines.specs.Behind.{within}
use Rattle.spec_lines.specs.View.{within_told}

some_inside : {A : Type 0} {x y : A} → Some x ≡ Some y → x ≡ y
some_inside e = cc

pub mapped : {A B C : Type 0} (f : A → B) (g : B → Option C) (o : Option A) (y : B) → option_map f o ≡ Some y → chain o (λ a. g (f a)) ≡ g y
mapped f g None y e = cc
mapped f g (Some a) y e = ap g (some_inside e)

pub within_is : (o : Option Kind) → within_told (told o) ≡ within o
within_is None = refl
within_is (Some Truth) = refl
within_is (Some (Number w)) = grind arith

pub got : {A B : Type 0} (f : A → B) (xs : List A) (k : ℕ) → slice_get (map f xs) k ≡ option_map f (slice_get xs k)
got f [] k = refl
got f (x ∷ xs) zero = refl
got f (x ∷ xs) (suc k) = got f xs k
