-- Members of a clause.
use Rattle.std.proofs.Common.{◌≡◌, true, false, ◌||◌, ◌⊎◌, List, [], ◌∷◌, ◌++◌, ℤ, refl, sym, ◌∙◌, subst, inl, inr}
use Rattle.std.proofs.lemmas.Bool.{or_left, or_right, or_cases, false≢true}
use Rattle.std.proofs.lemmas.Bool.Decides.{Decides-int_eq}
use Rattle.std.proofs.lemmas.List.Folds.{list_any-append}
use Rattle.std.proofs.lemmas.List.Elements.{All-head, All-tail}
use Rattle.std.specs.List.{All}
use Rattle.std.specs.Ordering.{int_eq}
use Rattle.hk_cnf.specs.Literal.{has}

pub int_eq-refl : (l : ℤ) → int_eq l l ≡ true
int_eq-refl l = (Decides-int_eq l l).1 refl

pub int_eq-is : (k l : ℤ) → int_eq k l ≡ true → k ≡ l
int_eq-is k l h = (Decides-int_eq k l).0 h

pub int_eq-not : (k l : ℤ) → int_eq k l ≡ false → k ≡ l → ⊥
int_eq-not k l h e = false≢true (sym h ∙ (Decides-int_eq k l).1 e)

pub has-append : (c d : List ℤ) (l : ℤ) → has (c ++ d) l ≡ (has c l || has d l)
has-append c d l = list_any-append (int_eq l) c d

pub has-left : (c d : List ℤ) (l : ℤ) → has c l ≡ true → has (c ++ d) l ≡ true
has-left c d l h = has-append c d l ∙ or_left (has c l) (has d l) h

pub has-push : (c : List ℤ) (l : ℤ) → has (c ++ l ∷ []) l ≡ true
has-push c l = has-append c (l ∷ []) l ∙ or_right (has c l) (has (l ∷ []) l) (or_left (int_eq l l) (has [] l) (int_eq-refl l))

-- what holds of each member holds of this one
pub all-has : (P : ℤ → Type 0) (c : List ℤ) (l : ℤ) → All P c → has c l ≡ true → P l
all-has P [] l h m = absurd (false≢true m)
all-has P (x ∷ c) l h m = step (all-has P c l (All-tail P x c h)) (or_cases (int_eq l x) (has c l) m)
  where
    step : (has c l ≡ true → P l) → (int_eq l x ≡ true) ⊎ (has c l ≡ true) → P l
    step rest (inl e) = subst P (sym (int_eq-is l x e)) (All-head P x c h)
    step rest (inr e) = rest e
