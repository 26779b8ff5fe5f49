-- Signed readings.
use Rattle.std.proofs.Common.{◌≡◌, ◌+◌, ◌-◌, ◌*◌, ◌/◌, ◌%◌, ◌^◌, ◌<◌, ◌≤◌, inl, inr, ℕ, suc, ℤ, pos, negsuc, arith, ap, sym, ◌∙◌, subst, refl, min, to_z, of_z, w64}
use Rattle.std.specs.Int.Signed.{mag, shr_z}
use Rattle.std.proofs.Math.Nat.{add-mul, suc-mul, mul-lt-mul_of_pos_right, mul-le-mul_right, mul-div_cancel, mod-eq_of_lt, two-pow-succ}
use Rattle.std.proofs.Math.Pow.{pow_mono}
use Rattle.std.specs.Int.{int_div_euclid}
use Rattle.std.specs.Int.Signed.{mag_shr}
use Rattle.std.proofs.lemmas.Nat.{pow_pos, pow-add, shr_high}
use Rattle.std.proofs.lemmas.Int.{to_z_pos, to_z-of_z}
use Rattle.std.proofs.Math.Facts.{to_z-neg}
use Rattle.std.proofs.lemmas.Bool.{lt-ltb, le-ltb, cases_lt}
use Rattle.hk_num.specs.Numbers.{signed_of, number_of}
use Rattle.hk_num.proofs.Words.{low_of_negative, word, shifted_off}

-- A word's lowest bits are the word's signed reading modulo 2^w.
pub number_bits : (w : ℕ) (z : ℤ) → w ≤ 64 → mag z < 2 ^ 64 → of_z w64 z % 2 ^ w ≡ number_of w z
number_bits w (pos n) within fits = refl
number_bits w (negsuc n) within fits = low_of_negative w n within fits

-- The reading of a number below half of the width's, and of one from there on.
pub reading_low : (w a : ℕ) → a < 2 ^ (w - 1) → signed_of w a ≡ pos a
reading_low w a below = rw (lt-ltb a (2 ^ (w - 1)) below) refl

pub reading_high : (w a : ℕ) → 2 ^ (w - 1) ≤ a → signed_of w a ≡ negsuc (2 ^ w - 1 - a)
reading_high w a beyond = rw (le-ltb a (2 ^ (w - 1)) beyond) refl

-- a width is two halves
pub halves : (w : ℕ) → 1 ≤ w → 2 ^ w ≡ 2 ^ (w - 1) + 2 ^ (w - 1)
halves w some =
    let P : ℕ → Type 0 = λ k. 2 ^ k ≡ 2 ^ (w - 1) + 2 ^ (w - 1) in
    let whole : suc (w - 1) ≡ w = omega (arith, some) in
    subst P whole (two-pow-succ (w - 1))

-- half a word
half_word : (w : ℕ) → 1 ≤ w → w ≤ 64 → 2 ^ (w - 1) * 2 ^ (64 - w) ≡ 2 ^ 63
half_word w some within =
    let whole : (w - 1) + (64 - w) ≡ 63 = omega (arith, some, within) in
    sym (pow-add 2 (w - 1) (64 - w)) ∙ ap (λ k. 2 ^ k) whole

-- A number in the highest bits of a word, and back with copies of its sign.
there_low : (w a : ℕ) → 1 ≤ w → w ≤ 64 → a < 2 ^ (w - 1) → shr_z (to_z w64 (a * 2 ^ (64 - w))) (2 ^ (64 - w)) ≡ pos a
there_low w a some within below =
    let k = 2 ^ (64 - w) in
    let fits : a * k < 2 ^ 63 = omega (arith, half_word w some within, mul-lt-mul_of_pos_right {k = k} below (pow_pos (64 - w))) in
    ap (λ z. shr_z z k) (to_z_pos w64 (a * k) fits) ∙ ap pos (mul-div_cancel a (pow_pos (64 - w)))

there_high : (w a : ℕ) → 1 ≤ w → w ≤ 64 → a < 2 ^ w → 2 ^ (w - 1) ≤ a → shr_z (to_z w64 (a * 2 ^ (64 - w))) (2 ^ (64 - w)) ≡ negsuc (2 ^ w - 1 - a)
there_high w a some within below beyond =
    let k = 2 ^ (64 - w) in
    let j = 2 ^ w - 1 - a in
    let full : a + suc j ≡ 2 ^ w = omega (arith, below) in
    let copies : a * k + (j * k + k) ≡ 2 ^ 64 =
    ap (λ n. a * k + n) (sym (suc-mul j k)) ∙ sym (add-mul a (suc j) k) ∙ ap (λ n. n * k) full ∙ sym (word w within) in
    let small : suc j ≤ 2 ^ (w - 1) = omega (arith, halves w some, below, beyond) in
    let half : j * k + k ≤ 2 ^ 63 = omega (arith, suc-mul j k, mul-le-mul_right k small, half_word w some within) in
    let there : a * k ≡ 2 ^ 64 - suc (j * k + (k - 1)) = omega (arith, copies, pow_pos (64 - w)) in
    let fits : j * k + (k - 1) < 2 ^ 63 = omega (arith, half, pow_pos (64 - w)) in
    let low : k - 1 < k = omega (arith, pow_pos (64 - w)) in
    ap (λ n. shr_z (to_z w64 n) k) there ∙ ap (λ z. shr_z z k) (to_z-neg w64 (j * k + (k - 1)) fits) ∙ ap negsuc (shr_high j (64 - w) (k - 1) low)

pub there_and_back : (w a : ℕ) → 1 ≤ w → w ≤ 64 → a < 2 ^ w → shr_z (to_z w64 (a * 2 ^ (64 - w))) (2 ^ (64 - w)) ≡ signed_of w a
there_and_back w a some within below =
    elim (cases_lt a (2 ^ (w - 1))) [
      | inl low ↦ there_low w a some within low ∙ sym (reading_low w a low)
      | inr high ↦ there_high w a some within below high ∙ sym (reading_high w a high)
    ]

-- A reading fits the signed word.
pub reading_fits : (w a : ℕ) → 1 ≤ w → w ≤ 64 → a < 2 ^ w → mag (signed_of w a) < 2 ^ 63
reading_fits w a some within below =
    let at_most : w - 1 ≤ 63 = omega (arith, within) in
    let half : 2 ^ (w - 1) ≤ 2 ^ 63 = pow_mono at_most in
    elim (cases_lt a (2 ^ (w - 1))) [
      | inl low ↦ rw (reading_low w a low) (omega (arith, low, half))
      | inr high ↦ rw (reading_high w a high) (omega (arith, high, half, below, halves w some))
    ]

-- What a shift to the highest bits of a word and back reads.
pub read_word : (w a : ℕ) (z : ℤ) → 1 ≤ w → w ≤ 64 → a < 2 ^ w → mag z < 2 ^ 63 → z ≡ to_z w64 (a * 2 ^ (64 - w) % 2 ^ 64) → to_z w64 (of_z w64 (shr_z (to_z w64 (of_z w64 z)) (2 ^ (64 - w)))) ≡ signed_of w a
read_word w a z some within below fits is =
    let k = 2 ^ (64 - w) in
    let small : a * k < 2 ^ 64 = omega (arith, word w within, mul-lt-mul_of_pos_right {k = k} below (pow_pos (64 - w))) in
    let there : z ≡ to_z w64 (a * k) = is ∙ ap (to_z w64) (mod-eq_of_lt small) in
    let back : shr_z (to_z w64 (of_z w64 z)) k ≡ signed_of w a =
    ap (λ y. shr_z y k) (to_z-of_z w64 z (record { sfits = fits }) ∙ there) ∙ there_and_back w a some within below in
    ap (λ y. to_z w64 (of_z w64 y)) back ∙ to_z-of_z w64 (signed_of w a) (record { sfits = reading_fits w a some within below })

-- the lowest bits of a signed word
pub number_word : (w : ℕ) (z : ℤ) → w ≤ 64 → mag z < 2 ^ 63 → of_z w64 (to_z w64 (of_z w64 z)) % 2 ^ w ≡ number_of w z
number_word w z within fits =
    ap (λ y. of_z w64 y % 2 ^ w) (to_z-of_z w64 z (record { sfits = fits })) ∙ number_bits w z within (omega (arith, fits))

-- from 63 bits on, a shift of a word to the right changes nothing more
same_quotient : (n b : ℕ) → n < 2 ^ 63 → n / 2 ^ min b 63 ≡ n / 2 ^ b
same_quotient n b below =
    elim (cases_lt b 63) [
      | inl short ↦ (let same : min b 63 ≡ b = omega (arith, short) in ap (λ k. n / 2 ^ k) same)
      | inr long ↦ (let same : min b 63 ≡ 63 = omega (arith, long) in
          let whole : 63 ≤ 63 = omega arith in
          ap (λ k. n / 2 ^ k) same ∙ shifted_off n 63 63 below whole ∙ sym (shifted_off n 63 b below long))
    ]

rounded_down : (z : ℤ) (b : ℕ) → mag z < 2 ^ 63 → shr_z z (2 ^ min b 63) ≡ int_div_euclid z (pos (2 ^ b))
rounded_down (pos n) b fits = ap pos (same_quotient n b fits)
rounded_down (negsuc n) b fits = ap negsuc (same_quotient n b fits)

-- What a shift of a signed word to the right gives.
pub shift_word : (z : ℤ) (b m : ℕ) → mag z < 2 ^ 63 → m ≡ min b 63 → to_z w64 (of_z w64 (shr_z (to_z w64 (of_z w64 z)) (2 ^ m))) ≡ int_div_euclid z (pos (2 ^ b))
shift_word z b m fits is =
    let short : mag (shr_z z (2 ^ min b 63)) < 2 ^ 63 = omega (arith, fits, mag_shr z (2 ^ min b 63)) in
    let back : shr_z (to_z w64 (of_z w64 z)) (2 ^ m) ≡ shr_z z (2 ^ min b 63) =
    ap (λ y. shr_z y (2 ^ m)) (to_z-of_z w64 z (record { sfits = fits })) ∙ ap (λ k. shr_z z (2 ^ k)) is in
    ap (λ y. to_z w64 (of_z w64 y)) back ∙ to_z-of_z w64 (shr_z z (2 ^ min b 63)) (record { sfits = short }) ∙ rounded_down z b fits
