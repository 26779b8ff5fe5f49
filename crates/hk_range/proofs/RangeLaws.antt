-- Laws of the numbers that operations make of ranges.
use Rattle.std.proofs.Common.{◌≡◌, ℕ, zero, ◌+◌, ◌-◌, ◌*◌, ◌/◌, ◌%◌, ◌^◌, ◌<◌, ◌≤◌, bit_and, bit_or, arith, sym, ◌∙◌, ap, subst}
use Rattle.std.proofs.Math.Nat.{mod-eq_of_lt, div-eq_of_lt}
use Rattle.std.proofs.Math.Pow.{pow_mono, shr_mono}
use Rattle.std.proofs.lemmas.Nat.{pow_pos, and_le_l, and_le_r, le_or_l, le_or_r, shr_le, shr-shr}
use Rattle.std.proofs.lemmas.Bool.{ne_eqb}
use Rattle.std.specs.Int.Bits.{or_add_and}
use Rattle.hk_num.specs.Numbers.{number_of, sign_extend}
use Rattle.hk_num.proofs.Readings.{reading_low, halves}
use Rattle.hk_term.specs.Operations.{urem_value}
use Rattle.hk_range.specs.Ranges.{InRange}
use Rattle.hk_range.specs.declared.range.Range.{Range}

-- a shift by more leaves less
shr_less : (n j k : ℕ) → j ≤ k → n / 2 ^ k ≤ n / 2 ^ j
shr_less n j k h =
    let whole : j + (k - j) ≡ k = omega arith in
    let e : n / 2 ^ j / 2 ^ (k - j) ≡ n / 2 ^ k = shr-shr n j (k - j) ∙ ap (λ m. n / 2 ^ m) whole in
    let less : n / 2 ^ j / 2 ^ (k - j) ≤ n / 2 ^ j = shr_le (n / 2 ^ j) (k - j) in
    omega (arith, e, less)

pub shr_least : (lo most a b : ℕ) → lo ≤ a → b ≤ most → lo / 2 ^ most ≤ a / 2 ^ b
shr_least lo most a b h k = let first = shr_mono most h in let second = shr_less a b most k in omega (arith, first, second)

pub shr_far : (n k : ℕ) → n < 2 ^ 64 → 64 ≤ k → 0 ≡ n / 2 ^ k
shr_far n k below far = let wide : 2 ^ 64 ≤ 2 ^ k = pow_mono far in sym (div-eq_of_lt (omega (arith, below, wide)))

pub and_most : (a b p q : ℕ) → a ≤ p → b ≤ q → (bit_and a b ≤ p) × (bit_and a b ≤ q)
and_most a b p q h k = let l = and_le_l a b in let r = and_le_r a b in (omega (arith, l, h), omega (arith, r, k))

pub or_most : (a b : ℕ) → bit_or a b ≤ a + b
or_most a b = let e = or_add_and a b in omega (arith, e)

pub urem_small : (w a b : ℕ) → a < b → urem_value w a b ≡ a
urem_small w a b h =
    let some : b ≡ 0 → ⊥ = λ e. absurd (omega (arith, h, e)) in
    rw (ne_eqb b 0 some) (mod-eq_of_lt h)

-- the extension of a number whose sign is 0
pub sign_small : (u w x : ℕ) → 1 ≤ u → u ≤ w → x ≤ (2 ^ u - 1) / 2 → sign_extend u w x ≡ x
sign_small u w x some wider below =
    let half : (2 ^ u - 1) / 2 + 1 ≡ 2 ^ (u - 1) = omega (arith, halves u some, pow_pos (u - 1)) in
    let low : x < 2 ^ (u - 1) = omega (arith, half, below) in
    let wide : 2 ^ u ≤ 2 ^ w = pow_mono wider in
    let fits : x < 2 ^ w = omega (arith, low, halves u some, wide) in
    ap (number_of w) (reading_low u x low) ∙ mod-eq_of_lt fits
