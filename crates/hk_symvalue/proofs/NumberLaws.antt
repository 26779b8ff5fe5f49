-- Laws of numbers of a width.
use Rattle.std.proofs.Common.{◌≡◌, ◌≢◌, ◌<◌, ◌≤◌, ◌^◌, ◌+◌, ◌-◌, ◌*◌, ◌/◌, ◌%◌, ◌⊎◌, ℕ, zero, suc, Bool, true, false, not, ◌&&◌, ◌||◌, nat_eq, nat_lt, nat_le, if◌then◌else◌, unsigned_abs, inl, inr, sym, ap, ◌∙◌, arith}
use Rattle.std.proofs.Math.Nat.{mod-eq_of_lt, add-mul-mod_self_right, div-eq_of_lt, div-lt_iff_lt-mul, le-div_iff_mul-le, mod-lt, mul-le-mul_left, mul-lt-mul_of_pos_right, mul-div_cancel_left, mul_comm, zero-mul}
use Rattle.std.proofs.Math.Pow.{pow_mono, pow-lt}
use Rattle.std.proofs.lemmas.Nat.{pow_pos, pow-add}
use Rattle.std.proofs.lemmas.Bool.{lt-ltb, le-ltb, le-leb, lt-leb, cases_lt, ne_eqb, eq-eqb}
use Rattle.std.proofs.lemmas.Bool.Decides.{eqb_tells}
use Rattle.std.proofs.Math.Bool.{or-false, or-true}
use Rattle.hk_num.proofs.Readings.{halves, reading_low, reading_high}
use Rattle.hk_num.specs.Numbers.{signed_of}

-- a number of a smaller width is one of a greater
pub wider : (u w a : ℕ) → u ≤ w → a < 2 ^ u → a ≡ a % 2 ^ w
wider u w a h below = sym (mod-eq_of_lt (omega (arith, below, pow_mono h)))

-- a sum that wraps is below its first number
pub carry : (w a b : ℕ) → a < 2 ^ w → b < 2 ^ w → nat_lt ((a + b) % 2 ^ w) a ≡ nat_le (2 ^ w) (a + b)
carry w a b p q = by (cases_lt (a + b) (2 ^ w))
  where
    by : (a + b < 2 ^ w) ⊎ (2 ^ w ≤ a + b) → nat_lt ((a + b) % 2 ^ w) a ≡ nat_le (2 ^ w) (a + b)
    by (inl low) = ap (λ n. nat_lt n a) (mod-eq_of_lt low) ∙ le-ltb (a + b) a (omega arith) ∙ sym (lt-leb (2 ^ w) (a + b) low)
    by (inr high) =
        let whole : a + b ≡ (a + b - 2 ^ w) + 1 * 2 ^ w = omega (arith, high) in
        let small : a + b - 2 ^ w < 2 ^ w = omega (arith, p, q, high) in
        let rest : (a + b) % 2 ^ w ≡ a + b - 2 ^ w = ap (λ n. n % 2 ^ w) whole ∙ add-mul-mod_self_right (a + b - 2 ^ w) 1 (2 ^ w) ∙ mod-eq_of_lt small in
        ap (λ n. nat_lt n a) rest ∙ lt-ltb (a + b - 2 ^ w) a (omega (arith, q, high)) ∙ sym (le-leb (2 ^ w) (a + b) high)

-- over a number is over its quotient, times the divisor
pub over_quotient : (most n a : ℕ) → n ≢ 0 → nat_lt (most / n) a ≡ nat_lt most (a * n)
over_quotient most n a some = by (cases_lt most (a * n))
  where
    positive : 0 < n
    positive = omega (arith, some)

    by : (most < a * n) ⊎ (a * n ≤ most) → nat_lt (most / n) a ≡ nat_lt most (a * n)
    by (inl over) = lt-ltb (most / n) a ((div-lt_iff_lt-mul positive).1 over) ∙ sym (lt-ltb most (a * n) over)
    by (inr within) = le-ltb (most / n) a ((le-div_iff_mul-le positive).1 within) ∙ sym (le-ltb most (a * n) within)

-- the highest bit
pub high_bit : (w u a m : ℕ) → w ≡ u → 1 ≤ w → a < 2 ^ w → m ≡ a / 2 ^ (w - 1) % 2 ^ (suc (w - 1) - (w - 1)) → nat_eq m 1 ≡ not (nat_lt a (2 ^ (u - 1)))
high_bit w u a m same some below is =
    let e : suc (w - 1) - (w - 1) ≡ 1 = omega arith in
    ap (λ n. nat_eq n 1) (is ∙ ap (λ j. a / 2 ^ (w - 1) % 2 ^ j) e) ∙ by (cases_lt a (2 ^ (w - 1))) ∙ ap (λ k. not (nat_lt a (2 ^ (k - 1)))) same
  where
    by : (a < 2 ^ (w - 1)) ⊎ (2 ^ (w - 1) ≤ a) → nat_eq (a / 2 ^ (w - 1) % 2 ^ 1) 1 ≡ not (nat_lt a (2 ^ (w - 1)))
    by (inl low) = ap (λ n. nat_eq (n % 2 ^ 1) 1) (div-eq_of_lt low) ∙ sym (ap not (lt-ltb a (2 ^ (w - 1)) low))
    by (inr high) =
        let least : 1 * 2 ^ (w - 1) ≤ a = omega (arith, high) in
        let above : 1 ≤ a / 2 ^ (w - 1) = (le-div_iff_mul-le (pow_pos (w - 1))).1 least in
        let whole : a < 2 * 2 ^ (w - 1) = omega (arith, below, halves w some) in
        let few : a / 2 ^ (w - 1) < 2 = (div-lt_iff_lt-mul (pow_pos (w - 1))).1 whole in
        let one : a / 2 ^ (w - 1) ≡ 1 = omega (arith, above, few) in
        ap (λ n. nat_eq (n % 2 ^ 1) 1) one ∙ sym (ap not (le-ltb a (2 ^ (w - 1)) high))

pub fits_wider : (u w a : ℕ) → u ≤ w → a < 2 ^ u → true ≡ nat_lt a (2 ^ w)
fits_wider u w a h below = sym (lt-ltb a (2 ^ w) (omega (arith, below, pow_mono h)))

pub greatest_fits : (w u n : ℕ) → n ≡ 2 ^ w - 1 → w < u → n < 2 ^ u
greatest_fits w u n e h = let narrow : w ≤ u = omega (arith, h) in omega (arith, e, pow_mono narrow, pow_pos w)

-- at most the greatest number
pub at_most : (w a : ℕ) → not (nat_lt (2 ^ w - 1) a) ≡ nat_lt a (2 ^ w)
at_most w a = by (cases_lt a (2 ^ w))
  where
    by : (a < 2 ^ w) ⊎ (2 ^ w ≤ a) → not (nat_lt (2 ^ w - 1) a) ≡ nat_lt a (2 ^ w)
    by (inl low) = ap not (le-ltb (2 ^ w - 1) a (omega (arith, low))) ∙ sym (lt-ltb a (2 ^ w) low)
    by (inr high) = ap not (lt-ltb (2 ^ w - 1) a (omega (arith, high, pow_pos w))) ∙ sym (le-ltb a (2 ^ w) high)

-- the magnitude of a signed reading
pub magnitude_is : (w a : ℕ) (s : Bool) (n k : ℕ) → s ≡ not (nat_lt a (2 ^ (w - 1))) → n ≡ (2 ^ w - a) % 2 ^ w → k ≡ a → 1 ≤ w → a < 2 ^ w → (if s then n else k) ≡ unsigned_abs (signed_of w a)
magnitude_is w a s n k sign other same some below = by (cases_lt a (2 ^ (w - 1)))
  where
    by : (a < 2 ^ (w - 1)) ⊎ (2 ^ (w - 1) ≤ a) → (if s then n else k) ≡ unsigned_abs (signed_of w a)
    by (inl low) =
        ap (λ b. if b then n else k) (sign ∙ ap not (lt-ltb a (2 ^ (w - 1)) low)) ∙ same ∙ sym (ap unsigned_abs (reading_low w a low))
    by (inr high) =
        let some : 2 ^ w - a < 2 ^ w = omega (arith, high, pow_pos (w - 1), below) in
        let next : 2 ^ w - a ≡ suc (2 ^ w - 1 - a) = omega (arith, below) in
        ap (λ b. if b then n else k) (sign ∙ ap not (le-ltb a (2 ^ (w - 1)) high)) ∙ other ∙ mod-eq_of_lt some ∙ next ∙ sym (ap unsigned_abs (reading_high w a high))

-- twice the width holds a product
pub product_fits : (w a b : ℕ) → a < 2 ^ w → b < 2 ^ w → a * b < 2 ^ (2 * w)
product_fits w a b p q =
    let twice : w + w ≡ 2 * w = omega arith in
    let whole : 2 ^ (2 * w) ≡ 2 ^ w * 2 ^ w = ap (λ k. 2 ^ k) (sym twice) ∙ pow-add 2 w w in
    omega (arith, whole, mul-le-mul_left {m = b} {n = 2 ^ w} a (omega (arith, q)), mul-lt-mul_of_pos_right {k = 2 ^ w} p (pow_pos w))

-- a product that wraps does not divide back
pub divides_back : (w most a b : ℕ) → most < 2 ^ w → a < 2 ^ w → b < 2 ^ w
    → (nat_lt most (a * b % 2 ^ w) || (not (nat_eq a 0) && not (nat_eq (a * b % 2 ^ w / a) b))) ≡ nat_lt most (a * b)
divides_back w most a b m p q = by (eqb_tells a 0) (cases_lt (a * b) (2 ^ w))
  where
    by : ((nat_eq a 0 ≡ true) × (a ≡ 0)) ⊎ ((nat_eq a 0 ≡ false) × (a ≢ 0)) → (a * b < 2 ^ w) ⊎ (2 ^ w ≤ a * b)
        → (nat_lt most (a * b % 2 ^ w) || (not (nat_eq a 0) && not (nat_eq (a * b % 2 ^ w / a) b))) ≡ nat_lt most (a * b)
    by (inl z) h =
        let none : a * b ≡ 0 = ap (λ n. n * b) z.1 ∙ zero-mul b in
        let wrapped : nat_lt most (a * b % 2 ^ w) ≡ false = ap (λ n. nat_lt most (n % 2 ^ w)) none ∙ ap (nat_lt most) (mod-eq_of_lt (pow_pos w)) ∙ le-ltb most 0 (omega arith) in
        (λ i. (wrapped i || (not (z.0 i) && not (nat_eq (a * b % 2 ^ w / a) b)))) ∙ sym (ap (nat_lt most) none ∙ le-ltb most 0 (omega arith))
    by (inr s) (inl low) =
        let rest : a * b % 2 ^ w ≡ a * b = mod-eq_of_lt low in
        let back : nat_eq (a * b % 2 ^ w / a) b ≡ true = eq-eqb (a * b % 2 ^ w / a) b (ap (λ n. n / a) rest ∙ mul-div_cancel_left b (omega (arith, s.1))) in
        (λ i. (nat_lt most (rest i) || (not (s.0 i) && not (back i)))) ∙ or-false (nat_lt most (a * b))
    by (inr s) (inr high) =
        let over : a * b % 2 ^ w < b * a = omega (arith, mod-lt (a * b) (pow_pos w), high, mul_comm a b) in
        let less : a * b % 2 ^ w / a < b = (div-lt_iff_lt-mul (omega (arith, s.1))).1 over in
        let apart : nat_eq (a * b % 2 ^ w / a) b ≡ false = ne_eqb (a * b % 2 ^ w / a) b (λ (e : a * b % 2 ^ w / a ≡ b). absurd (omega (arith, less, e))) in
        (λ i. (nat_lt most (a * b % 2 ^ w) || (not (s.0 i) && not (apart i)))) ∙ or-true (nat_lt most (a * b % 2 ^ w)) ∙ sym (lt-ltb most (a * b) (omega (arith, m, high)))

pub below_power : (k : ℕ) → k < 2 ^ k
below_power zero = omega arith
below_power (suc k) = let next : 2 ^ k < 2 ^ suc k = pow-lt (omega arith) in omega (arith, below_power k, next)

pub twice_wide : (w n : ℕ) → n < 2 ^ w → n < 2 ^ (2 * w)
twice_wide w n h = let wide : w ≤ 2 * w = omega arith in omega (arith, h, pow_mono wide)

-- twice the width tells whether a product is over a number
pub doubled : (w a b m n most : ℕ) → a < 2 ^ w → b < 2 ^ w → m ≡ most → n ≡ (a * b) % 2 ^ (2 * w) → nat_lt m n ≡ nat_lt most (a * b)
doubled w a b m n most p q e f = λ i. nat_lt (e i) ((f ∙ mod-eq_of_lt (product_fits w a b p q)) i)

pub below_wider : (u w n : ℕ) → n < 2 ^ u → u ≤ w → n < 2 ^ w
below_wider u w n h wide = omega (arith, h, pow_mono wide)
