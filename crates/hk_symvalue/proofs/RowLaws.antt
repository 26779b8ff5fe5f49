-- How terms answer the rows of operations on numbers.
use Rattle.std.proofs.Common.{◌≡◌, ℕ, Bool, true, false, ◌||◌, if◌then◌else◌, refl, sym, ◌∙◌, subst}
use Rattle.ir_value.specs.declared.value.Value.TheVariants.{Poison}
use Rattle.ir_value.specs.declared.value.Made.TheVariants.{Gives, Sticks}
use Rattle.ir_value.specs.declared.value.StuckReason.{StuckReason}
use Rattle.ir_value.specs.Numbers.{unless}
use Rattle.hk_symvalue.specs.Rows.{Shown, flagged}

-- poison by a test, or the number
pub shown_unless : (p t : Bool) (n m : ℕ) → p ≡ t → n ≡ m → Shown (flagged p n) (unless t m)
shown_unless p t n m e f = subst (λ b. Shown (flagged b n) (unless t m)) (sym e) (subst (λ k. Shown (flagged t k) (unless t m)) (sym f) (by t))
  where
    by : (t : Bool) → Shown (flagged t m) (unless t m)
    by true = refl
    by false = refl

-- poison by a first test, by a second one, or the number
pub shown_beyond : (p far t : Bool) (n m : ℕ) → p ≡ (far || t) → n ≡ m → Shown (flagged p n) (if far then Gives Poison else unless t m)
shown_beyond p true t n m e f = subst (λ b. Shown (flagged b n) (Gives Poison)) (sym e) refl
shown_beyond p false t n m e f = shown_unless p t n m e f

-- nothing where a test sticks
pub shown_divided : (p stuck t u : Bool) (n m k : ℕ) (r : StuckReason) → p ≡ u → n ≡ k → (stuck ≡ false → u ≡ t) → (stuck ≡ false → k ≡ m) → Shown (flagged p n) (if stuck then Sticks r else unless t m)
shown_divided p true t u n m k r e f g h = tt
shown_divided p false t u n m k r e f g h = shown_unless p t n m (e ∙ g refl) (f ∙ h refl)

pub shown_twice : (p stuck least t u : Bool) (n m k : ℕ) (r s : StuckReason) → p ≡ u → n ≡ k → (stuck ≡ false → u ≡ t) → (stuck ≡ false → k ≡ m) → Shown (flagged p n) (if stuck then Sticks r else (if least then Sticks s else unless t m))
shown_twice p true least t u n m k r s e f g h = tt
shown_twice p false true t u n m k r s e f g h = tt
shown_twice p false false t u n m k r s e f g h = shown_unless p t n m (e ∙ g refl) (f ∙ h refl)
