-- Laws of the bits of extended, concatenated and extracted numbers.
use Rattle.std.proofs.Common.{◌≡◌, ◌+◌, ◌-◌, ◌*◌, ◌/◌, ◌%◌, ◌^◌, ◌<◌, ◌≤◌, ℕ, arith, ap, sym, ◌∙◌}
use Rattle.std.proofs.Math.Nat.{mod-eq_of_lt}
use Rattle.std.proofs.Math.Pow.{pow_mono}
use Rattle.std.proofs.lemmas.Nat.{field_of, mod-pow-add, pow_pos, shr-shr, shr_high, mod_low}
use Rattle.hk_num.specs.Numbers.{signed_of, number_of, sign_extend}
use Rattle.hk_num.proofs.Algebra.{cut_twice, cut_extended, extend_twice, number_cut, number_of_reading}
use Rattle.hk_num.proofs.Readings.{reading_low}
use Rattle.hk_num.proofs.Words.{shifted_off}

-- bits are the same where the bits below a width that holds them are
pub bits_same : (to low u m n : ℕ) → low + to ≤ u → m % 2 ^ u ≡ n % 2 ^ u → m / 2 ^ low % 2 ^ to ≡ n / 2 ^ low % 2 ^ to
bits_same to low u m n within same =
    let narrower : to + low ≤ u = omega (arith, within) in
    let cut : m % 2 ^ (to + low) ≡ n % 2 ^ (to + low) =
    sym (cut_twice u (to + low) m narrower) ∙ ap (λ k. k % 2 ^ (to + low)) same ∙ cut_twice u (to + low) n narrower in
    sym (field_of m to low) ∙ ap (λ k. k / 2 ^ low) cut ∙ field_of n to low

-- the lower part of two
pub lower_bits : (to low u x y : ℕ) → low + to ≤ u → y < 2 ^ u → y / 2 ^ low % 2 ^ to ≡ (x * 2 ^ u + y) / 2 ^ low % 2 ^ to
lower_bits to low u x y within below =
    bits_same to low u y (x * 2 ^ u + y) within (mod-eq_of_lt below ∙ sym (mod_low x u y below))

-- the upper part of two
pub upper_bits : (to low u x y : ℕ) → u ≤ low → y < 2 ^ u → x / 2 ^ (low - u) % 2 ^ to ≡ (x * 2 ^ u + y) / 2 ^ low % 2 ^ to
upper_bits to low u x y beyond below =
    let whole : u + (low - u) ≡ low = omega (arith, beyond) in
    let there : (x * 2 ^ u + y) / 2 ^ low ≡ x / 2 ^ (low - u) =
    ap (λ k. (x * 2 ^ u + y) / 2 ^ k) (sym whole) ∙ sym (shr-shr (x * 2 ^ u + y) u (low - u))
    ∙ ap (λ n. n / 2 ^ (low - u)) (shr_high x u y below) in
    ap (λ n. n % 2 ^ to) (sym there)

-- an extraction's bits
pub extracted_bits : (to low from w x : ℕ) → low + to ≤ w → x / 2 ^ (from + low) % 2 ^ to ≡ (x / 2 ^ from % 2 ^ w) / 2 ^ low % 2 ^ to
extracted_bits to low from w x within =
    ap (λ n. n % 2 ^ to) (sym (shr-shr x from low))
    ∙ sym (bits_same to low w (x / 2 ^ from % 2 ^ w) (x / 2 ^ from) within (cut_twice w w (x / 2 ^ from) (omega arith)))

-- the lowest bits of a number that was extended by copies of its sign
pub extended_bits : (to low u w x : ℕ) → low + to ≤ u → u ≤ w → x < 2 ^ u → x / 2 ^ low % 2 ^ to ≡ sign_extend u w x / 2 ^ low % 2 ^ to
extended_bits to low u w x within wider below =
    bits_same to low u x (sign_extend u w x) within (mod-eq_of_lt below ∙ sym (cut_extended u w x wider below))

-- the whole width
pub whole_bits : (to w x : ℕ) → to ≡ w → x < 2 ^ w → x ≡ x / 2 ^ 0 % 2 ^ to
whole_bits to w x same below =
    let none : x / 2 ^ 0 ≡ x = omega arith in
    sym (ap (λ n. n % 2 ^ to) none ∙ ap (λ k. x % 2 ^ k) same ∙ mod-eq_of_lt below)

-- bits above a number
pub bits_above : (to low u x : ℕ) → u ≤ low → x < 2 ^ u → 0 ≡ x / 2 ^ low % 2 ^ to
bits_above to low u x beyond below =
    sym (ap (λ n. n % 2 ^ to) (shifted_off x u low below beyond) ∙ mod-eq_of_lt (pow_pos to))

-- an extension to the same width
pub extend_none : (w to x : ℕ) → to ≡ w → x < 2 ^ w → x ≡ sign_extend w to x
extend_none w to x same below = sym (ap (λ k. sign_extend w k x) same ∙ number_of_reading w x below)

-- the sign of a number that was extended by zeros is zero
pub extend_zeros : (u w to x : ℕ) → u < w → w ≤ to → x < 2 ^ u → x ≡ sign_extend w to x
extend_zeros u w to x narrower wider below =
    let half : u ≤ w - 1 = omega (arith, narrower) in
    let low : x < 2 ^ (w - 1) = omega (arith, below, pow_mono half) in
    let small : u ≤ to = omega (arith, narrower, wider) in
    let fits : x < 2 ^ to = omega (arith, below, pow_mono small) in
    sym (ap (number_of to) (reading_low w x low) ∙ mod-eq_of_lt fits)

-- an extension of an extension
pub sign_of_sign : (u w k to x a : ℕ) → 1 ≤ u → u ≤ k → w ≡ k → a ≡ sign_extend u k x → x < 2 ^ u → sign_extend u to x ≡ sign_extend w to a
sign_of_sign u w k to x a some wider same is below =
    sym (extend_twice u k to x some wider below) ∙ ap (sign_extend k to) (sym is) ∙ ap (λ n. sign_extend n to a) (sym same)

pub sign_of_zeros : (u w to x a : ℕ) → u < w → w ≤ to → a ≡ x → x < 2 ^ u → x ≡ sign_extend w to a
sign_of_zeros u w to x a narrower wider is below = extend_zeros u w to x narrower wider below ∙ ap (sign_extend w to) (sym is)

-- the lowest bits of a number that was extended by zeros, and of one by copies of its sign
pub zeros_from_bottom : (to low u x a : ℕ) → low ≡ 0 → a ≡ x → u ≤ to → x < 2 ^ u → x ≡ a / 2 ^ low % 2 ^ to
zeros_from_bottom to low u x a none is wider small =
    let below : x < 2 ^ to = omega (arith, small, pow_mono wider) in
    let bottom : a / 2 ^ 0 ≡ x = omega (arith, is) in
    sym (ap (λ k. a / 2 ^ k % 2 ^ to) none ∙ ap (λ n. n % 2 ^ to) bottom ∙ mod-eq_of_lt below)

pub sign_from_bottom : (to low u w x a : ℕ) → low ≡ 0 → a ≡ sign_extend u w x → to ≤ w → sign_extend u to x ≡ a / 2 ^ low % 2 ^ to
sign_from_bottom to low u w x a none is narrower =
    let bottom : a / 2 ^ 0 ≡ a = omega arith in
    sym (ap (λ k. a / 2 ^ k % 2 ^ to) none ∙ ap (λ n. n % 2 ^ to) (bottom ∙ is) ∙ number_cut w to (signed_of u x) narrower)

-- bits beside bits of one number
joined_bits : (w u high low x : ℕ) → high ≡ low + u → x / 2 ^ low % 2 ^ (w + u) ≡ (x / 2 ^ high % 2 ^ w) * 2 ^ u + x / 2 ^ low % 2 ^ u
joined_bits w u high low x beside =
    mod-pow-add (x / 2 ^ low) w u
    ∙ ap (λ n. n % 2 ^ w * 2 ^ u + x / 2 ^ low % 2 ^ u) (shr-shr x low u ∙ ap (λ k. x / 2 ^ k) (sym beside))

pub joined_value : (w u k l high low x y a b : ℕ) → w ≡ k → u ≡ l → high ≡ low + u → y ≡ x → a ≡ y / 2 ^ high % 2 ^ k → b ≡ x / 2 ^ low % 2 ^ l → x / 2 ^ low % 2 ^ (w + u) ≡ a * 2 ^ l + b
joined_value w u k l high low x y a b first second beside same is_upper is_lower =
    let upper : a ≡ x / 2 ^ high % 2 ^ w =
    is_upper ∙ ap (λ n. n / 2 ^ high % 2 ^ k) same ∙ ap (λ j. x / 2 ^ high % 2 ^ j) (sym first) in
    joined_bits w u high low x beside ∙ ap (λ n. n * 2 ^ u + x / 2 ^ low % 2 ^ u) (sym upper)
    ∙ ap (λ j. a * 2 ^ j + x / 2 ^ low % 2 ^ j) second ∙ ap (λ n. a * 2 ^ l + n) (sym is_lower)
