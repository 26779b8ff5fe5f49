-- Laws of the operations on numbers of a width.
use Rattle.std.proofs.Common.{◌≡◌, ◌+◌, ◌-◌, ◌*◌, ◌/◌, ◌%◌, ◌^◌, ◌<◌, ◌≤◌, ℕ, suc, ℤ, pos, negsuc, IsTrue, nat_lt, arith, ap, sym, ◌∙◌, subst, refl, add_comm, add_assoc, mul_comm, mul_assoc, inl, inr, ◌-ℤ◌}
use Rattle.std.proofs.Math.Nat.{add-mul, mod-lt, mod-le, div-le_self, mod-eq_of_lt, mod-add-mod, add-mod-mod, div-add-mod', add-mul-mod_self_right, add-mod_right}
use Rattle.std.proofs.Math.Pow.{mod-mod-pow, pow_mono}
use Rattle.std.proofs.lemmas.Nat.{pow_pos}
use Rattle.std.proofs.lemmas.Bool.{lt-ltb, ltb-true, cases_lt}
use Rattle.hk_num.specs.Numbers.{signed_of, number_of, fits_signed, sign_extend, bvadd, bvsub, bvmul, bvudiv, bvurem, bvlshr}
use Rattle.hk_num.proofs.Words.{low_of_complement}
use Rattle.hk_num.proofs.Readings.{reading_low, reading_high, halves}

-- ---- results

pub number_below : (w : ℕ) (z : ℤ) → number_of w z < 2 ^ w
number_below w (pos n) = mod-lt n (pow_pos w)
number_below w (negsuc n) = omega (arith, pow_pos w)

pub udiv_below : (w a b : ℕ) → a < 2 ^ w → bvudiv w a b < 2 ^ w
udiv_below w a b below = omega (arith, div-le_self a b, below)

pub urem_below : (w a b : ℕ) → a < 2 ^ w → bvurem w a b < 2 ^ w
urem_below w a b below = omega (arith, mod-le a b, below)

pub lshr_below : (w a b : ℕ) → a < 2 ^ w → bvlshr w a b < 2 ^ w
lshr_below w a b below = omega (arith, div-le_self a (2 ^ b), below)

-- ---- sums and products

pub add_commutes : (w a b : ℕ) → bvadd w a b ≡ bvadd w b a
add_commutes w a b = ap (λ n. n % 2 ^ w) (add_comm a b)

pub add_associates : (w a b c : ℕ) → bvadd w (bvadd w a b) c ≡ bvadd w a (bvadd w b c)
add_associates w a b c =
    mod-add-mod (a + b) (2 ^ w) c ∙ ap (λ n. n % 2 ^ w) (add_assoc a b c) ∙ sym (add-mod-mod a (b + c) (2 ^ w))

pub add_zero : (w a : ℕ) → a < 2 ^ w → bvadd w a 0 ≡ a
add_zero w a below = let none : a + 0 ≡ a = omega arith in ap (λ n. n % 2 ^ w) none ∙ mod-eq_of_lt below

pub sub_zero : (w a : ℕ) → a < 2 ^ w → bvsub w a 0 ≡ a
sub_zero w a below =
    let whole : 2 ^ w + a - 0 ≡ a + 2 ^ w = omega arith in
    ap (λ n. n % 2 ^ w) whole ∙ add-mod_right a (2 ^ w) ∙ mod-eq_of_lt below

pub sub_self : (w a : ℕ) → bvsub w a a ≡ 0
sub_self w a =
    let whole : 2 ^ w + a - a ≡ 0 + 2 ^ w = omega arith in
    ap (λ n. n % 2 ^ w) whole ∙ add-mod_right 0 (2 ^ w) ∙ mod-eq_of_lt (pow_pos w)

pub add_then_sub : (w a b : ℕ) → a < 2 ^ w → b < 2 ^ w → bvsub w (bvadd w a b) b ≡ a
add_then_sub w a b first second =
    let front : 2 ^ w + (a + b) % 2 ^ w - b ≡ (2 ^ w - b) + (a + b) % 2 ^ w = omega (arith, second) in
    let whole : (2 ^ w - b) + (a + b) ≡ a + 2 ^ w = omega (arith, second) in
    ap (λ n. n % 2 ^ w) front ∙ add-mod-mod (2 ^ w - b) (a + b) (2 ^ w) ∙ ap (λ n. n % 2 ^ w) whole
    ∙ add-mod_right a (2 ^ w) ∙ mod-eq_of_lt first

pub sub_then_add : (w a b : ℕ) → a < 2 ^ w → b < 2 ^ w → bvadd w (bvsub w a b) b ≡ a
sub_then_add w a b first second =
    let whole : 2 ^ w + a - b + b ≡ a + 2 ^ w = omega (arith, second) in
    mod-add-mod (2 ^ w + a - b) (2 ^ w) b ∙ ap (λ n. n % 2 ^ w) whole ∙ add-mod_right a (2 ^ w) ∙ mod-eq_of_lt first

mod_times : (a b m : ℕ) → (a % m * b) % m ≡ (a * b) % m
mod_times a b m =
    let whole : a * b ≡ a % m * b + (a / m * b) * m =
    ap (λ n. n * b) (sym (div-add-mod' a m)) ∙ add-mul (a / m * m) (a % m) b ∙ add_comm (a / m * m * b) (a % m * b)
    ∙ ap (λ n. a % m * b + n) (mul_assoc (a / m) m b ∙ ap (λ n. a / m * n) (mul_comm m b) ∙ sym (mul_assoc (a / m) b m)) in
    sym (ap (λ n. n % m) whole ∙ add-mul-mod_self_right (a % m * b) (a / m * b) m)

times_mod : (a b m : ℕ) → (a * (b % m)) % m ≡ (a * b) % m
times_mod a b m = ap (λ n. n % m) (mul_comm a (b % m)) ∙ mod_times b a m ∙ ap (λ n. n % m) (mul_comm b a)

pub mul_commutes : (w a b : ℕ) → bvmul w a b ≡ bvmul w b a
mul_commutes w a b = ap (λ n. n % 2 ^ w) (mul_comm a b)

pub mul_associates : (w a b c : ℕ) → bvmul w (bvmul w a b) c ≡ bvmul w a (bvmul w b c)
mul_associates w a b c =
    mod_times (a * b) c (2 ^ w) ∙ ap (λ n. n % 2 ^ w) (mul_assoc a b c) ∙ sym (times_mod a (b * c) (2 ^ w))

pub mul_zero : (w a : ℕ) → bvmul w a 0 ≡ 0
mul_zero w a = let none : a * 0 ≡ 0 = omega arith in ap (λ n. n % 2 ^ w) none ∙ mod-eq_of_lt (pow_pos w)

pub mul_one : (w a : ℕ) → a < 2 ^ w → bvmul w a 1 ≡ a
mul_one w a below = let same : a * 1 ≡ a = omega arith in ap (λ n. n % 2 ^ w) same ∙ mod-eq_of_lt below

-- ---- signed readings

pub reading_fits_width : (w a : ℕ) → 1 ≤ w → a < 2 ^ w → IsTrue (fits_signed w (signed_of w a))
reading_fits_width w a some below =
    elim (cases_lt a (2 ^ (w - 1))) [
      | inl low ↦ rw (reading_low w a low, lt-ltb a (2 ^ (w - 1)) low) refl
      | inr high ↦ (let small : 2 ^ w - 1 - a < 2 ^ (w - 1) = omega (arith, high, below, halves w some) in
          rw (reading_high w a high, lt-ltb (2 ^ w - 1 - a) (2 ^ (w - 1)) small) refl)
    ]

-- The number that has the reading of a number is that number.
pub number_of_reading : (w a : ℕ) → a < 2 ^ w → number_of w (signed_of w a) ≡ a
number_of_reading w a below =
    elim (cases_lt a (2 ^ (w - 1))) [
      | inl low ↦ rw (reading_low w a low) (mod-eq_of_lt below)
      | inr high ↦ (let small : 2 ^ w - 1 - a < 2 ^ w = omega (arith, below) in
          let back : 2 ^ w - 1 - (2 ^ w - 1 - a) ≡ a = omega (arith, below) in
          rw (reading_high w a high, mod-eq_of_lt small) back)
    ]

-- The reading of the number that has a reading is that reading.
pub reading_of_number : (w : ℕ) (z : ℤ) → 1 ≤ w → IsTrue (fits_signed w z) → signed_of w (number_of w z) ≡ z
reading_of_number w (pos n) some fits =
    let low : n < 2 ^ (w - 1) = ltb-true n (2 ^ (w - 1)) fits in
    let small : n < 2 ^ w = omega (arith, low, halves w some) in
    ap (signed_of w) (mod-eq_of_lt small) ∙ reading_low w n low
reading_of_number w (negsuc n) some fits =
    let low : n < 2 ^ (w - 1) = ltb-true n (2 ^ (w - 1)) fits in
    let small : n < 2 ^ w = omega (arith, low, halves w some) in
    let there : 2 ^ w - 1 - n % 2 ^ w ≡ 2 ^ w - 1 - n = ap (λ m. 2 ^ w - 1 - m) (mod-eq_of_lt small) in
    let high : 2 ^ (w - 1) ≤ 2 ^ w - 1 - n = omega (arith, low, halves w some) in
    let back : 2 ^ w - 1 - (2 ^ w - 1 - n) ≡ n = omega (arith, small) in
    ap (signed_of w) there ∙ reading_high w (2 ^ w - 1 - n) high ∙ ap negsuc back

-- ---- extension and truncation

-- A number of a smaller width is one of the greater width's lowest bits.
pub number_cut : (v u : ℕ) (z : ℤ) → u ≤ v → number_of v z % 2 ^ u ≡ number_of u z
number_cut v u (pos n) narrower =
    let P : ℕ → Type 0 = λ k. n % 2 ^ k % 2 ^ u ≡ n % 2 ^ u in
    let whole : (v - u) + u ≡ v = omega (arith, narrower) in
    subst P whole (mod-mod-pow n (v - u) u)
number_cut v u (negsuc n) narrower =
    let P : ℕ → Type 0 = λ k. n % 2 ^ k % 2 ^ u ≡ n % 2 ^ u in
    let whole : (v - u) + u ≡ v = omega (arith, narrower) in
    low_of_complement v u (n % 2 ^ v) narrower (mod-lt n (pow_pos v)) ∙ ap (λ m. 2 ^ u - 1 - m) (subst P whole (mod-mod-pow n (v - u) u))

below_wider : (u v n : ℕ) → u ≤ v → IsTrue (nat_lt n (2 ^ (u - 1))) → IsTrue (nat_lt n (2 ^ (v - 1)))
below_wider u v n wider fits =
    let at_most : u - 1 ≤ v - 1 = omega (arith, wider) in
    lt-ltb n (2 ^ (v - 1)) (omega (arith, ltb-true n (2 ^ (u - 1)) fits, pow_mono at_most))

fits_wider : (u v : ℕ) (z : ℤ) → u ≤ v → IsTrue (fits_signed u z) → IsTrue (fits_signed v z)
fits_wider u v (pos n) wider fits = below_wider u v n wider fits
fits_wider u v (negsuc n) wider fits = below_wider u v n wider fits

pub extend_twice : (u v w a : ℕ) → 1 ≤ u → u ≤ v → a < 2 ^ u → sign_extend v w (sign_extend u v a) ≡ sign_extend u w a
extend_twice u v w a some wider below =
    ap (number_of w) (reading_of_number v (signed_of u a) (omega (arith, some, wider)) (fits_wider u v (signed_of u a) wider (reading_fits_width u a some below)))

pub cut_extended : (u v a : ℕ) → u ≤ v → a < 2 ^ u → sign_extend u v a % 2 ^ u ≡ a
cut_extended u v a wider below = number_cut v u (signed_of u a) wider ∙ number_of_reading u a below

pub cut_twice : (v w a : ℕ) → w ≤ v → a % 2 ^ v % 2 ^ w ≡ a % 2 ^ w
cut_twice v w a narrower = number_cut v w (pos a) narrower

difference : (a q : ℕ) → a ≤ q → negsuc (q - a) ≡ pos a -ℤ pos (suc q)
difference a q within =
    let less : q - a ≡ suc q - suc a = omega arith in
    rw (lt-ltb a (suc q) (omega (arith, within))) (ap negsuc less)

-- The reading from half of the width's numbers on, as a difference.
pub reading_difference : (w a : ℕ) → a < 2 ^ w → 2 ^ (w - 1) ≤ a → signed_of w a ≡ pos a -ℤ pos (2 ^ w)
reading_difference w a below high =
    let whole : suc (2 ^ w - 1) ≡ 2 ^ w = omega (arith, pow_pos w) in
    reading_high w a high ∙ difference a (2 ^ w - 1) (omega (arith, below)) ∙ ap (λ p. pos a -ℤ pos p) whole
