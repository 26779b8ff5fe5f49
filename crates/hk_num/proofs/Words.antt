-- Numbers of a width within a machine word of 64 bits.
use Rattle.std.proofs.Common.{◌≡◌, ◌+◌, ◌-◌, ◌*◌, ◌/◌, ◌%◌, ◌^◌, ◌<◌, ◌≤◌, ℕ, suc, arith, ap, sym, ◌∙◌, subst, mul_comm, mul_assoc, pow_mono}
use Rattle.std.proofs.Math.Nat.{suc-mul, mod-lt, div-add-mod', div-eq_of_lt, add-mul-mod_self_right, mul-mod_left}
use Rattle.std.proofs.Math.Pow.{mod-mod-pow, not_mod}
use Rattle.std.proofs.lemmas.Nat.{pow_pos, pow-add, shr_high}

-- a word is a power of the width and one of what is left
pub word : (w : ℕ) → w ≤ 64 → 2 ^ 64 ≡ 2 ^ w * 2 ^ (64 - w)
word w within =
    let P : ℕ → Type 0 = λ k. 2 ^ k ≡ 2 ^ w * 2 ^ (64 - w) in
    let whole : w + (64 - w) ≡ 64 = omega (arith, within) in
    subst P whole (pow-add 2 w (64 - w))

-- one copy less
pub one_less : (n k : ℕ) → 0 < n → (n - 1) * k + k ≡ n * k
one_less n k positive =
    let same : suc (n - 1) ≡ n = omega (arith, positive) in
    sym (suc-mul (n - 1) k) ∙ ap (λ m. m * k) same

-- the ones of a width
pub ones : (w : ℕ) → w ≤ 64 → (2 ^ 64 - 1) / 2 ^ (64 - w) ≡ 2 ^ w - 1
ones w within =
    let k = 64 - w in
    let low : 2 ^ k - 1 < 2 ^ k = omega (arith, pow_pos k) in
    let whole : 2 ^ 64 - 1 ≡ (2 ^ w - 1) * 2 ^ k + (2 ^ k - 1) = omega (arith, word w within, one_less (2 ^ w) (2 ^ k) (pow_pos w), pow_pos k) in
    ap (λ n. n / 2 ^ k) whole ∙ shr_high (2 ^ w - 1) k (2 ^ k - 1) low

-- to cut at a word changes nothing below it
pub cut : (n w : ℕ) → w ≤ 64 → n % 2 ^ 64 % 2 ^ w ≡ n % 2 ^ w
cut n w within =
    let P : ℕ → Type 0 = λ k. n % 2 ^ k % 2 ^ w ≡ n % 2 ^ w in
    let whole : (64 - w) + w ≡ 64 = omega (arith, within) in
    subst P whole (mod-mod-pow n (64 - w) w)

-- a difference
pub difference : (w a b : ℕ) → w ≤ 64 → b < 2 ^ w → (a + (2 ^ 64 - b)) % 2 ^ 64 % 2 ^ w ≡ (2 ^ w + a - b) % 2 ^ w
difference w a b within below =
    let k = 2 ^ (64 - w) in
    let whole : a + (2 ^ 64 - b) ≡ (2 ^ w + a - b) + (k - 1) * 2 ^ w =
    omega (arith, word w within, one_less k (2 ^ w) (pow_pos (64 - w)), mul_comm k (2 ^ w), below, pow_pos (64 - w)) in
    cut (a + (2 ^ 64 - b)) w within ∙ ap (λ n. n % 2 ^ w) whole ∙ add-mul-mod_self_right (2 ^ w + a - b) (k - 1) (2 ^ w)

-- a shift by the width or more leaves no bit
pub shifted_out : (w a b : ℕ) → w ≤ b → (a * 2 ^ b) % 2 ^ w ≡ 0
shifted_out w a b beyond =
    let P : ℕ → Type 0 = λ k. (a * 2 ^ k) % 2 ^ w ≡ 0 in
    let whole : (b - w) + w ≡ b = omega (arith, beyond) in
    let split : a * 2 ^ ((b - w) + w) ≡ (a * 2 ^ (b - w)) * 2 ^ w = ap (λ n. a * n) (pow-add 2 (b - w) w) ∙ sym (mul_assoc a (2 ^ (b - w)) (2 ^ w)) in
    subst P whole (ap (λ n. n % 2 ^ w) split ∙ mul-mod_left (a * 2 ^ (b - w)) (2 ^ w))

-- and to the right neither
pub shifted_off : (a i b : ℕ) → a < 2 ^ i → i ≤ b → a / 2 ^ b ≡ 0
shifted_off a i b below beyond = div-eq_of_lt (omega (arith, below, pow_mono {i = i} {j = b} beyond))

-- the lowest bits of a complement are the complement of the lowest bits
pub low_of_complement : (j w n : ℕ) → w ≤ j → n < 2 ^ j → (2 ^ j - 1 - n) % 2 ^ w ≡ 2 ^ w - 1 - n % 2 ^ w
low_of_complement j w n within below =
    let q = n / 2 ^ w in
    let r = n % 2 ^ w in
    let P : ℕ → Type 0 = λ k. (2 ^ k - 1 - r) % 2 ^ w ≡ 2 ^ w - 1 - r in
    let whole : (j - w) + w ≡ j = omega (arith, within) in
    let rest : r < 2 ^ w = mod-lt n (pow_pos w) in
    let high : (2 ^ j - 1 - n) + q * 2 ^ w ≡ 2 ^ j - 1 - r = omega (arith, div-add-mod' n (2 ^ w), below) in
    sym (add-mul-mod_self_right (2 ^ j - 1 - n) q (2 ^ w)) ∙ ap (λ m. m % 2 ^ w) high ∙ subst P whole (not_mod (j - w) w rest)

-- the lowest bits of a word that holds -(n + 1)
pub low_of_negative : (w n : ℕ) → w ≤ 64 → n < 2 ^ 64 → (2 ^ 64 - suc n) % 2 ^ w ≡ 2 ^ w - 1 - n % 2 ^ w
low_of_negative w n within below =
    let same : 2 ^ 64 - suc n ≡ 2 ^ 64 - 1 - n = omega arith in
    ap (λ m. m % 2 ^ w) same ∙ low_of_complement 64 w n within below
