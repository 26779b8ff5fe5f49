-- How often a place stands in a list.
use Rattle.std.proofs.Common.{◌≡◌, ℕ, zero, suc, ◌+◌, ◌<◌, Bool, true, false, Option, Some, None, List, [], ◌∷◌, ◌++◌, length, take, get_or, refl, sym, ap, ◌∙◌, arith}
use Rattle.std.proofs.lemmas.Bool.{eqb-true, eqb-false}
use Rattle.std.proofs.lemmas.List.{get_or-set_same, get_or-set_other}
use Rattle.std.proofs.lemmas.List.Sums.{count_by_more_yes, count_by_more_no}
use Rattle.std.specs.Prelude.{if◌then◌else◌, nat_eq, slice_index_or, slice_set, count_by}
use Rattle.spec_lines.specs.declared.equated.Times.{Times}
use Rattle.spec_lines.specs.declared.equated.Times.TheVariants.{Never}
use Rattle.spec_lines.specs.Equations.{is_place}
use Rattle.spec_lines.specs.Times.{times_of, more, more_at, more_for, is_once, AreTallied}

more_told : (n : ℕ) → more (times_of n) ≡ times_of (n + 1)
more_told n = grind arith

pub told_once : (times : List Times) (places : List (Option ℕ)) (p : ℕ) → AreTallied times places
    → is_once (slice_index_or times p Never) ≡ nat_eq (count_by (is_place p) places) 1
told_once times places p told = ap is_once (told p) ∙ once (count_by (is_place p) places) where
  once : (n : ℕ) → is_once (times_of n) ≡ nat_eq n 1
  once n = grind arith

-- one more that is never there
pub room_same : (times : List Times) (p : ℕ) → slice_index_or (times ++ Never ∷ []) p Never ≡ slice_index_or times p Never
room_same [] zero = refl
room_same [] (suc p) = refl
room_same (t ∷ ts) zero = refl
room_same (t ∷ ts) (suc p) = room_same ts p

-- one place written
pub place_set : (times : List Times) (place p : ℕ) (y : Times) → place < length times
    → slice_index_or (slice_set times place y) p Never ≡ (if nat_eq p place then y else slice_index_or times p Never)
place_set times place p y l = by_test (nat_eq p place) refl where
  by_test : (b : Bool) → nat_eq p place ≡ b → slice_index_or (slice_set times place y) p Never ≡ (if b then y else slice_index_or times p Never)
  by_test true e =
      ap (λ k. slice_index_or (slice_set times place y) k Never) (eqb-true p place e) ∙ get_or-set_same times place y Never l
  by_test false e = get_or-set_other times place p y Never (eqb-false p place e)

-- one more at a place
pub more_set : (times : List Times) (place p : ℕ) (y : Times) → place < length times → y ≡ more (slice_index_or times place Never)
    → slice_index_or (slice_set times place y) p Never ≡ more_at place p (slice_index_or times p Never)
more_set times place p y l is = place_set times place p y l ∙ by_test (nat_eq p place) refl where
  by_test : (b : Bool) → nat_eq p place ≡ b
      → (if b then y else slice_index_or times p Never) ≡ (if b then more (slice_index_or times p Never) else slice_index_or times p Never)
  by_test true e = is ∙ ap (λ k. more (slice_index_or times k Never)) (sym (eqb-true p place e))
  by_test false e = refl

by_place : (p place : ℕ) (xs : List (Option ℕ)) (i : ℕ) → i < length xs → get_or xs i None ≡ Some place → (b : Bool) → nat_eq p place ≡ b
    → (if b then more (times_of (count_by (is_place p) (take i xs))) else times_of (count_by (is_place p) (take i xs)))
    ≡ times_of (count_by (is_place p) (take (i + 1) xs))
by_place p place xs i l is true e =
    more_told (count_by (is_place p) (take i xs)) ∙ ap times_of (sym (count_by_more_yes (is_place p) xs i None l (ap (is_place p) is ∙ e)))
by_place p place xs i l is false e =
    ap times_of (sym (count_by_more_no (is_place p) xs i None l (ap (is_place p) is ∙ e)))

by_item : (p : ℕ) (x : Option ℕ) (xs : List (Option ℕ)) (i : ℕ) → i < length xs → get_or xs i None ≡ x
    → more_for x p (times_of (count_by (is_place p) (take i xs))) ≡ times_of (count_by (is_place p) (take (i + 1) xs))
by_item p None xs i l is = ap times_of (sym (count_by_more_no (is_place p) xs i None l (ap (is_place p) is)))
by_item p (Some place) xs i l is = by_place p place xs i l is (nat_eq p place) refl

-- one conjunct more
pub tallied_more : (old new : List Times) (xs : List (Option ℕ)) (i : ℕ) (x : Option ℕ) → i < length xs → get_or xs i None ≡ x
    → ((p : ℕ) → slice_index_or new p Never ≡ more_for x p (slice_index_or old p Never)) → AreTallied old (take i xs) → AreTallied new (take (i + 1) xs)
tallied_more old new xs i x l is more told = λ p. more p ∙ (ap (more_for x p) (told p) ∙ by_item p x xs i l is)
