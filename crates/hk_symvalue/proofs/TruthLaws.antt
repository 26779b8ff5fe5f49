-- Truth values as numbers of width 1.
use Rattle.std.proofs.Common.{◌≡◌, ◌<◌, ◌^◌, ◌-◌, ◌⊎◌, ℕ, zero, suc, Bool, true, false, not, ◌&&◌, ◌||◌, if◌then◌else◌, nat_eq, bit_and, bit_or, inl, inr, refl, sym, ap, ◌∙◌, subst, arith}
use Rattle.hk_term.specs.Operations.{bit}

pub bit_true : (b : Bool) → nat_eq (bit b) 1 ≡ b
bit_true true = refl
bit_true false = refl

-- a number of width 1
pub one_bit : (w a : ℕ) → w ≡ 1 → a < 2 ^ w → (a ≡ 0) ⊎ (a ≡ 1)
one_bit w a e h = by a (subst (λ k. a < 2 ^ k) e h)
  where
    by : (a : ℕ) → a < 2 ^ 1 → (a ≡ 0) ⊎ (a ≡ 1)
    by zero h = inl refl
    by (suc zero) h = inr refl
    by (suc (suc n)) h = absurd (omega (arith, h))

pub not_true : (w a : ℕ) → w ≡ 1 → a < 2 ^ w → nat_eq (2 ^ w - 1 - a) 1 ≡ not (nat_eq a 1)
not_true w a e h = ap (λ k. nat_eq (2 ^ k - 1 - a) 1) e ∙ by (one_bit w a e h)
  where
    by : (a ≡ 0) ⊎ (a ≡ 1) → nat_eq (2 ^ 1 - 1 - a) 1 ≡ not (nat_eq a 1)
    by (inl z) = subst (λ n. nat_eq (2 ^ 1 - 1 - n) 1 ≡ not (nat_eq n 1)) (sym z) refl
    by (inr o) = subst (λ n. nat_eq (2 ^ 1 - 1 - n) 1 ≡ not (nat_eq n 1)) (sym o) refl

-- a law of two numbers of width 1 that holds of each pair
pub two_bits : (P : ℕ → ℕ → Type 0) → P 0 0 → P 0 1 → P 1 0 → P 1 1 → (w u a b : ℕ) → w ≡ 1 → u ≡ 1 → a < 2 ^ w → b < 2 ^ u → P a b
two_bits P oo oi io ii w u a b e f h k = by (one_bit w a e h) (one_bit u b f k)
  where
    by : (a ≡ 0) ⊎ (a ≡ 1) → (b ≡ 0) ⊎ (b ≡ 1) → P a b
    by (inl p) (inl q) = subst (P a) (sym q) (subst (λ n. P n 0) (sym p) oo)
    by (inl p) (inr q) = subst (P a) (sym q) (subst (λ n. P n 1) (sym p) oi)
    by (inr p) (inl q) = subst (P a) (sym q) (subst (λ n. P n 0) (sym p) io)
    by (inr p) (inr q) = subst (P a) (sym q) (subst (λ n. P n 1) (sym p) ii)

pub and_true : (w u a b : ℕ) → w ≡ 1 → u ≡ 1 → a < 2 ^ w → b < 2 ^ u → nat_eq (bit_and a b) 1 ≡ (nat_eq a 1 && nat_eq b 1)
and_true = two_bits (λ a b. nat_eq (bit_and a b) 1 ≡ (nat_eq a 1 && nat_eq b 1)) refl refl refl refl

pub or_true : (w u a b : ℕ) → w ≡ 1 → u ≡ 1 → a < 2 ^ w → b < 2 ^ u → nat_eq (bit_or a b) 1 ≡ (nat_eq a 1 || nat_eq b 1)
or_true = two_bits (λ a b. nat_eq (bit_or a b) 1 ≡ (nat_eq a 1 || nat_eq b 1)) refl refl refl refl

-- a test chooses before or behind
pub chosen_true : (c : Bool) (a b : ℕ) → nat_eq (if c then a else b) 1 ≡ (if c then nat_eq a 1 else nat_eq b 1)
chosen_true true a b = refl
chosen_true false a b = refl
