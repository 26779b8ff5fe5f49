-- Laws of the bits of a number that was extended by copies of its sign.
use Rattle.std.proofs.Common.{◌≡◌, ◌+◌, ◌-◌, ◌*◌, ◌/◌, ◌%◌, ◌^◌, ◌<◌, ◌≤◌, ◌⊎◌, ℕ, suc, ℤ, pos, negsuc, arith, ap, sym, ◌∙◌, subst, inl, inr}
use Rattle.std.specs.Int.{int_div_euclid}
use Rattle.std.proofs.Math.Nat.{mod-lt, mod-eq_of_lt, div-add-mod', div-lt_iff_lt-mul}
use Rattle.std.proofs.lemmas.Bool.{cases_lt}
use Rattle.std.proofs.lemmas.Nat.{pow_pos, pow-add, shr_high, field_of}
use Rattle.hk_num.specs.Numbers.{signed_of, number_of, sign_extend}
use Rattle.hk_num.proofs.Algebra.{cut_twice, reading_fits_width}
use Rattle.hk_num.proofs.Readings.{reading_low, reading_high}
use Rattle.hk_num.proofs.Words.{low_of_complement}
use Rattle.hk_simplify.proofs.PartLaws.{bits_same}
use Rattle.hk_simplify.proofs.NumberLaws.{signs_only}

-- the upper bits of a complement are the complement of the upper bits
complement_shifted : (w low m : ℕ) → low ≤ w → m < 2 ^ w → (2 ^ w - 1 - m) / 2 ^ low ≡ 2 ^ (w - low) - 1 - m / 2 ^ low
complement_shifted w low m narrower below =
    let p = 2 ^ low in
    let q = m / p in
    let r = m % p in
    let high = 2 ^ (w - low) in
    let sum : (w - low) + low ≡ w = omega (arith, narrower) in
    let product : high * p ≡ 2 ^ w = sym (pow-add 2 (w - low) low) ∙ ap (λ k. 2 ^ k) sum in
    let parts : q * p + r ≡ m = div-add-mod' m p in
    let small : r < p = mod-lt m (pow_pos low) in
    let less : q < high = (div-lt_iff_lt-mul (pow_pos low)).1 (omega (arith, below, product)) in
    let rest : suc q + (high - 1 - q) ≡ high = omega (arith, less) in
    let split : (suc q + (high - 1 - q)) * p ≡ 2 ^ w = ap (λ k. k * p) rest ∙ product in
    let whole : 2 ^ w - 1 - m ≡ (high - 1 - q) * p + (p - 1 - r) = omega (arith, split, parts, small) in
    ap (λ k. k / p) whole ∙ shr_high (high - 1 - q) low (p - 1 - r) (omega (arith, small))

-- the bits of a reading's number are those of its quotient
bits_of_reading : (w low to : ℕ) (z : ℤ) → low + to ≤ w → number_of w z / 2 ^ low % 2 ^ to ≡ number_of to (int_div_euclid z (pos (2 ^ low)))
bits_of_reading w low to (pos n) within = bits_same to low w (n % 2 ^ w) n within (cut_twice w w n (omega arith))
bits_of_reading w low to (negsuc n) within =
    let m = n % 2 ^ w in
    let below : m < 2 ^ w = mod-lt n (pow_pos w) in
    let upper : m / 2 ^ low < 2 ^ (w - low) = (
    let sum : (w - low) + low ≡ w = omega (arith, within) in
    let product : 2 ^ (w - low) * 2 ^ low ≡ 2 ^ w = sym (pow-add 2 (w - low) low) ∙ ap (λ k. 2 ^ k) sum in
    (div-lt_iff_lt-mul (pow_pos low)).1 (omega (arith, below, product))) in
    ap (λ k. k % 2 ^ to) (complement_shifted w low m (omega (arith, within)) below)
    ∙ low_of_complement (w - low) to (m / 2 ^ low) (omega (arith, within)) upper
    ∙ ap (λ k. 2 ^ to - 1 - k) (bits_same to low w m n within (cut_twice w w n (omega arith)))

-- the reading of the upper bits is the reading's quotient
reading_of_bits : (u low x : ℕ) → low < u → x < 2 ^ u → signed_of (u - low) (x / 2 ^ low % 2 ^ (u - low)) ≡ int_div_euclid (signed_of u x) (pos (2 ^ low))
reading_of_bits u low x narrower below = by (cases_lt x (2 ^ (u - 1)))
  where
    sum : (u - low) + low ≡ u
    sum = omega (arith, narrower)

    whole : x / 2 ^ low % 2 ^ (u - low) ≡ x / 2 ^ low
    whole = sym (field_of x (u - low) low) ∙ ap (λ k. x % 2 ^ k / 2 ^ low) sum ∙ ap (λ k. k / 2 ^ low) (mod-eq_of_lt below)

    half : (u - low - 1) + low ≡ u - 1
    half = omega (arith, narrower)

    product : 2 ^ (u - low - 1) * 2 ^ low ≡ 2 ^ (u - 1)
    product = sym (pow-add 2 (u - low - 1) low) ∙ ap (λ k. 2 ^ k) half

    at_least : (x / 2 ^ low < 2 ^ (u - low - 1)) ⊎ (2 ^ (u - low - 1) ≤ x / 2 ^ low) → 2 ^ (u - 1) ≤ x → 2 ^ (u - low - 1) ≤ x / 2 ^ low
    at_least (inl h) high_half = absurd (let small = (div-lt_iff_lt-mul (pow_pos low)).0 h in omega (arith, small, product, high_half))
    at_least (inr h) high_half = h

    by : (x < 2 ^ (u - 1)) ⊎ (2 ^ (u - 1) ≤ x) → signed_of (u - low) (x / 2 ^ low % 2 ^ (u - low)) ≡ int_div_euclid (signed_of u x) (pos (2 ^ low))
    by (inl low_half) =
        let small : x / 2 ^ low < 2 ^ (u - low - 1) = (div-lt_iff_lt-mul (pow_pos low)).1 (omega (arith, low_half, product)) in
        ap (signed_of (u - low)) whole ∙ reading_low (u - low) (x / 2 ^ low) small
        ∙ ap (λ z. int_div_euclid z (pos (2 ^ low))) (sym (reading_low u x low_half))
    by (inr high_half) =
        let least : 2 ^ (u - low - 1) ≤ x / 2 ^ low = at_least (cases_lt (x / 2 ^ low) (2 ^ (u - low - 1))) high_half in
        ap (signed_of (u - low)) whole ∙ reading_high (u - low) (x / 2 ^ low) least
        ∙ ap negsuc (sym (complement_shifted u low x (omega (arith, narrower)) below))
        ∙ ap (λ z. int_div_euclid z (pos (2 ^ low))) (sym (reading_high u x high_half))

-- bits of an extension: those of the number, and then copies of its sign
pub border_signs : (to low u w x a : ℕ) → a ≡ sign_extend u w x → x < 2 ^ u → low < u → low + to ≤ w → sign_extend (u - low) to (x / 2 ^ low % 2 ^ (u - low)) ≡ a / 2 ^ low % 2 ^ to
border_signs to low u w x a is below narrower within =
    ap (number_of to) (reading_of_bits u low x narrower below) ∙ sym (bits_of_reading w low to (signed_of u x) within)
    ∙ ap (λ k. k / 2 ^ low % 2 ^ to) (sym is)

-- bits above the number: copies of its sign
pub beyond_signs : (to low from u w x a : ℕ) → a ≡ sign_extend u w x → x < 2 ^ u → 1 ≤ u → from ≡ u - 1 → u - 1 ≤ low → low + to ≤ w → sign_extend (u - from) to (x / 2 ^ from % 2 ^ (u - from)) ≡ a / 2 ^ low % 2 ^ to
beyond_signs to low from u w x a is below some top beyond within =
    let first : from < u = omega (arith, top, some) in
    ap (number_of to) (
    reading_of_bits u from x first below ∙ ap (λ k. int_div_euclid (signed_of u x) (pos (2 ^ k))) top
    ∙ signs_only u low (signed_of u x) (reading_fits_width u x some below) beyond)
    ∙ sym (bits_of_reading w low to (signed_of u x) within) ∙ ap (λ k. k / 2 ^ low % 2 ^ to) (sym is)

-- the same from either
pub extended_part : (to low from u w x a : ℕ) → a ≡ sign_extend u w x → x < 2 ^ u → 1 ≤ u → low + to ≤ w → (from ≡ low) × (low < u) ⊎ (from ≡ u - 1) × (u - 1 ≤ low) → sign_extend (u - from) to (x / 2 ^ from % 2 ^ (u - from)) ≡ a / 2 ^ low % 2 ^ to
extended_part to low from u w x a is below some within (inl p) =
    subst (λ k. sign_extend (u - k) to (x / 2 ^ k % 2 ^ (u - k)) ≡ a / 2 ^ low % 2 ^ to) (sym p.0) (border_signs to low u w x a is below p.1 within)
extended_part to low from u w x a is below some within (inr p) = beyond_signs to low from u w x a is below some p.0 p.1 within
