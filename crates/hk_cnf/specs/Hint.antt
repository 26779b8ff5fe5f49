-- What a clause says under a set of true literals: the one word of unit propagation.
use Rattle.std.specs.Prelude.{Bool, true, false, if◌then◌else◌, ◌||◌, ◌≡◌, ◌≢◌, ◌⊎◌, List, ℤ, neg_ℤ}
use Rattle.std.specs.List.{All, fold}
use Rattle.std.specs.Ordering.{int_eq}
use Rattle.hk_cnf.specs.Literal.{has}
use Rattle.hk_cnf.specs.declared.hint.Hint.{Hint}
use Rattle.hk_cnf.specs.declared.hint.Hint.TheVariants.{False, Unit as OneLeft, Other}

-- one more literal that is not false: true ones leave no unit clause; the same literal again counts once
abbrev pub with_open : (ℤ → Bool) → Hint → ℤ → Hint
with_open truth False l = if truth l then Other else OneLeft l
with_open truth (OneLeft k) l = if int_eq k l then OneLeft k else Other
with_open truth Other l = Other

-- one more literal: a false one changes nothing
abbrev pub with_literal : (ℤ → Bool) → Hint → ℤ → Hint
with_literal truth hint l = if truth (neg_ℤ l) then hint else with_open truth hint l

-- the clause is false, or has exactly one literal that is unset and all others false, or neither
abbrev pub hint_of : (ℤ → Bool) → List ℤ → Hint
hint_of truth c = fold (with_literal truth) False c

-- the set with one more literal
abbrev pub with_true : ℤ → (ℤ → Bool) → ℤ → Bool
with_true l truth k = int_eq k l || truth k

-- this literal of the clause is unset, and all others are false
pub record Single (truth : ℤ → Bool) (l : ℤ) (c : List ℤ) : Type 0 where
  pub member : has c l ≡ true
  pub others : All (λ x. (l ≡ x) ⊎ (truth (neg_ℤ x) ≡ true)) c
  pub not_true : truth l ≡ false
  pub not_false : truth (neg_ℤ l) ≡ false

-- one literal of the clause is true and not false, or two that differ are not false
pub record Several (truth : ℤ → Bool) (c : List ℤ) : Type 0 where
  pub one : ℤ
  pub two : ℤ
  pub one_member : has c one ≡ true
  pub two_member : has c two ≡ true
  pub one_left : truth (neg_ℤ one) ≡ false
  pub two_left : truth (neg_ℤ two) ≡ false
  pub no_unit : (truth one ≡ true) ⊎ (one ≢ two)

-- what each answer says of the clause
abbrev pub Tells : (ℤ → Bool) → Hint → List ℤ → Type 0
Tells truth False c = All (λ x. truth (neg_ℤ x) ≡ true) c
Tells truth (OneLeft l) c = Single truth l c
Tells truth Other c = Several truth c
