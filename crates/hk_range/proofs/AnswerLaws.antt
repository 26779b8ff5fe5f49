-- Laws of what is found of two sums.
use Rattle.std.proofs.Common.{◌≡◌, ℕ, Bool, true, false, ◌&&◌, nat_eq, List, Option, None, Some, IfSome, Result, Ok, Err, IfOk, refl, sym, ap, ◌∙◌}
use Rattle.hk_range.specs.Answers.{all_true, IsFound}
use Rattle.hk_range.specs.declared.answers.Equation.{Equation}
use Rattle.hk_range.specs.declared.answers.Found.{Found}
use Rattle.hk_range.specs.declared.answers.Found.TheVariants.{Unequal, Solved, Open}

pub if_some_weaker : {A : Type 0} (o : Option A) (P Q : A → Type 0) → ((a : A) → P a → Q a) → IfSome o P → IfSome o Q
if_some_weaker None P Q h k = k
if_some_weaker (Some a) P Q h k = h a k

pub found_along : (f : ℕ → ℕ) (old new : List Equation) (l r a b : ℕ) (x : Found) → nat_eq l r ≡ nat_eq a b → IsFound f old new l r x → IsFound f old new a b x
found_along f old new l r a b Unequal e h = sym e ∙ h
found_along f old new l r a b Solved e h = h ∙ ap (λ t. all_true f old && t) e
found_along f old new l r a b Open e h = h

and_assoc : (a b c : Bool) → ((a && b) && c) ≡ (a && (b && c))
and_assoc true b c = refl
and_assoc false b c = refl

and_false : (a : Bool) → (a && false) ≡ false
and_false true = refl
and_false false = refl

-- the lower sums, whose equations hold where they are equal, and then the upper ones
pub found_both : (f : ℕ → ℕ) (old mid new : List Equation) (l r l0 r0 l1 r1 : ℕ) (x : Found) → nat_eq l r ≡ (nat_eq l0 r0 && nat_eq l1 r1) → all_true f mid ≡ (all_true f old && nat_eq l0 r0) → IsFound f mid new l1 r1 x → IsFound f old new l r x
found_both f old mid new l r l0 r0 l1 r1 Unequal e h k = e ∙ ap (λ t. nat_eq l0 r0 && t) k ∙ and_false (nat_eq l0 r0)
found_both f old mid new l r l0 r0 l1 r1 Solved e h k =
    k ∙ ap (λ t. t && nat_eq l1 r1) h ∙ and_assoc (all_true f old) (nat_eq l0 r0) (nat_eq l1 r1) ∙ ap (λ t. all_true f old && t) (sym e)
found_both f old mid new l r l0 r0 l1 r1 Open e h k = k

-- the lower sums are never equal
pub found_not : (f : ℕ → ℕ) (old new : List Equation) (l r l0 r0 l1 r1 : ℕ) → nat_eq l r ≡ (nat_eq l0 r0 && nat_eq l1 r1) → nat_eq l0 r0 ≡ false → IsFound f old new l r Unequal
found_not f old new l r l0 r0 l1 r1 e h = e ∙ ap (λ t. t && nat_eq l1 r1) h

pub if_ok_weaker : {T E : Type 0} (r : Result T E) (P Q : T → Type 0) → ((a : T) → P a → Q a) → IfOk r P → IfOk r Q
if_ok_weaker (Ok a) P Q h k = h a k
if_ok_weaker (Err e) P Q h k = k
