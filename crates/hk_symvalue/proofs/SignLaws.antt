-- Sums and differences of signed readings overflow by the signs of the numbers and of the result.
use Rattle.std.proofs.Common.{◌≡◌, ◌<◌, ◌≤◌, ◌^◌, ◌+◌, ◌-◌, ◌%◌, ◌⊎◌, ℕ, suc, ℤ, pos, negsuc, ◌+ℤ◌, ◌-ℤ◌, Bool, true, false, not, ◌&&◌, nat_lt, inl, inr, refl, sym, ap, ◌∙◌, arith, ◌*◌}
use Rattle.std.proofs.lemmas.Int.{ints}
use Rattle.std.proofs.Math.Nat.{mod-eq_of_lt, add-mul-mod_self_right}
use Rattle.std.proofs.lemmas.Bool.{lt-ltb, le-ltb, cases_lt}
use Rattle.hk_num.specs.Numbers.{signed_of, fits_signed, bvadd, bvsub, bvsaddo, bvssubo}
use Rattle.hk_num.proofs.Readings.{halves, reading_low, reading_high}
use Rattle.hk_symvalue.specs.Meaning.{differ}

not_not : (b : Bool) → not (not b) ≡ b
not_not true = refl
not_not false = refl

-- a whole number n - m has a signed reading where both are close
fits_between : (w n m : ℕ) (z : ℤ) → z ≡ pos n -ℤ pos m → n < m + 2 ^ (w - 1) → m ≤ n + 2 ^ (w - 1) → fits_signed w z ≡ true
fits_between w n m (pos k) e p q = lt-ltb k (2 ^ (w - 1)) (omega (arith, ints, e, p))
fits_between w n m (negsuc k) e p q = lt-ltb k (2 ^ (w - 1)) (omega (arith, ints, e, q))

fits_not : (w n m : ℕ) (z : ℤ) → z ≡ pos n -ℤ pos m → n + 2 ^ (w - 1) < m → fits_signed w z ≡ false
fits_not w n m (pos k) e p = absurd (omega (arith, ints, e, p))
fits_not w n m (negsuc k) e p = le-ltb k (2 ^ (w - 1)) (omega (arith, ints, e, p))

module _ (w a b : ℕ) (x y z : Bool) (first : x ≡ not (nat_lt a (2 ^ (w - 1)))) (second : y ≡ not (nat_lt b (2 ^ (w - 1))))
    (some : 1 ≤ w) (below : a < 2 ^ w) (beyond : b < 2 ^ w) where
  half : 2 ^ w ≡ 2 ^ (w - 1) + 2 ^ (w - 1)
  half = halves w some

  low_a : a < 2 ^ (w - 1) → x ≡ false
  low_a h = first ∙ ap not (lt-ltb a (2 ^ (w - 1)) h)

  high_a : 2 ^ (w - 1) ≤ a → x ≡ true
  high_a h = first ∙ ap not (le-ltb a (2 ^ (w - 1)) h)

  low_b : b < 2 ^ (w - 1) → y ≡ false
  low_b h = second ∙ ap not (lt-ltb b (2 ^ (w - 1)) h)

  high_b : 2 ^ (w - 1) ≤ b → y ≡ true
  high_b h = second ∙ ap not (le-ltb b (2 ^ (w - 1)) h)

  sum_by : z ≡ not (nat_lt (bvadd w a b) (2 ^ (w - 1))) → (a < 2 ^ (w - 1)) ⊎ (2 ^ (w - 1) ≤ a) → (b < 2 ^ (w - 1)) ⊎ (2 ^ (w - 1) ≤ b)
      → (not (differ x y) && differ x z) ≡ bvsaddo w a b
  sum_by third (inl p) (inl q) =
      let rest : bvadd w a b ≡ a + b = mod-eq_of_lt (omega (arith, p, q, half)) in
      (λ i. not (differ (low_a p i) (low_b q i)) && differ (low_a p i) z) ∙ third ∙ ap (λ n. not (nat_lt n (2 ^ (w - 1)))) rest
      ∙ sym (λ i. not (fits_signed w (reading_low w a p i +ℤ reading_low w b q i)))
  sum_by third (inr p) (inr q) =
      let whole : a + b ≡ (a + b - 2 ^ w) + 1 * 2 ^ w = omega (arith, p, q, half) in
      let small : a + b - 2 ^ w < 2 ^ w = omega (arith, below, beyond) in
      let rest : bvadd w a b ≡ a + b - 2 ^ w = ap (λ n. n % 2 ^ w) whole ∙ add-mul-mod_self_right (a + b - 2 ^ w) 1 (2 ^ w) ∙ mod-eq_of_lt small in
      (λ i. not (differ (high_a p i) (high_b q i)) && differ (high_a p i) z) ∙ ap not third ∙ not_not (nat_lt (bvadd w a b) (2 ^ (w - 1)))
      ∙ ap (λ n. nat_lt n (2 ^ (w - 1))) rest ∙ by (cases_lt (a + b - 2 ^ w) (2 ^ (w - 1)))
      ∙ sym (λ i. not (fits_signed w (reading_high w a p i +ℤ reading_high w b q i)))
    where
      by : (a + b - 2 ^ w < 2 ^ (w - 1)) ⊎ (2 ^ (w - 1) ≤ a + b - 2 ^ w) → nat_lt (a + b - 2 ^ w) (2 ^ (w - 1)) ≡ not (nat_lt (suc (2 ^ w - 1 - a + (2 ^ w - 1 - b))) (2 ^ (w - 1)))
      by (inl l) = lt-ltb (a + b - 2 ^ w) (2 ^ (w - 1)) l ∙ sym (ap not (le-ltb (suc (2 ^ w - 1 - a + (2 ^ w - 1 - b))) (2 ^ (w - 1)) (omega (arith, l, half, below, beyond, p, q))))
      by (inr h) = le-ltb (a + b - 2 ^ w) (2 ^ (w - 1)) h ∙ sym (ap not (lt-ltb (suc (2 ^ w - 1 - a + (2 ^ w - 1 - b))) (2 ^ (w - 1)) (omega (arith, h, half, below, beyond, p, q))))
  sum_by third (inl p) (inr q) =
      let apart : signed_of w a +ℤ signed_of w b ≡ pos (a + b) -ℤ pos (2 ^ w) = (λ i. reading_low w a p i +ℤ reading_high w b q i) ∙ omega (arith, ints, beyond) in
      (λ i. not (differ (low_a p i) (high_b q i)) && differ (low_a p i) z) ∙ sym (ap not (fits_between w (a + b) (2 ^ w) _ apart (omega (arith, p, beyond)) (omega (arith, q, half))))
  sum_by third (inr p) (inl q) =
      let apart : signed_of w a +ℤ signed_of w b ≡ pos (a + b) -ℤ pos (2 ^ w) = (λ i. reading_high w a p i +ℤ reading_low w b q i) ∙ omega (arith, ints, below) in
      (λ i. not (differ (high_a p i) (low_b q i)) && differ (high_a p i) z) ∙ sym (ap not (fits_between w (a + b) (2 ^ w) _ apart (omega (arith, q, below)) (omega (arith, p, half))))

  difference_by : z ≡ not (nat_lt (bvsub w a b) (2 ^ (w - 1))) → (a < 2 ^ (w - 1)) ⊎ (2 ^ (w - 1) ≤ a) → (b < 2 ^ (w - 1)) ⊎ (2 ^ (w - 1) ≤ b)
      → (differ x y && differ x z) ≡ bvssubo w a b
  difference_by third (inl p) (inl q) =
      let apart : signed_of w a -ℤ signed_of w b ≡ pos a -ℤ pos b = λ i. reading_low w a p i -ℤ reading_low w b q i in
      (λ i. differ (low_a p i) (low_b q i) && differ (low_a p i) z) ∙ sym (ap not (fits_between w a b _ apart (omega (arith, p)) (omega (arith, q))))
  difference_by third (inr p) (inr q) =
      let apart : signed_of w a -ℤ signed_of w b ≡ pos a -ℤ pos b = (λ i. reading_high w a p i -ℤ reading_high w b q i) ∙ omega (arith, ints, below, beyond) in
      (λ i. differ (high_a p i) (high_b q i) && differ (high_a p i) z) ∙ sym (ap not (fits_between w a b _ apart (omega (arith, below, half, q)) (omega (arith, beyond, half, p))))
  difference_by third (inl p) (inr q) =
      let rest : bvsub w a b ≡ 2 ^ w + a - b = mod-eq_of_lt (omega (arith, p, q, beyond)) in
      let same : 2 ^ w + a - b ≡ a + suc (2 ^ w - 1 - b) = omega (arith, beyond) in
      (λ i. differ (low_a p i) (high_b q i) && differ (low_a p i) z) ∙ third ∙ ap (λ n. not (nat_lt n (2 ^ (w - 1)))) (rest ∙ same)
      ∙ sym (λ i. not (fits_signed w (reading_low w a p i -ℤ reading_high w b q i)))
  difference_by third (inr p) (inl q) =
      let whole : 2 ^ w + a - b ≡ (a - b) + 1 * 2 ^ w = omega (arith, p, q) in
      let rest : bvsub w a b ≡ a - b = ap (λ n. n % 2 ^ w) whole ∙ add-mul-mod_self_right (a - b) 1 (2 ^ w) ∙ mod-eq_of_lt (omega (arith, below)) in
      let apart : signed_of w a -ℤ signed_of w b ≡ pos a -ℤ pos (2 ^ w + b) = (λ i. reading_high w a p i -ℤ reading_low w b q i) ∙ omega (arith, ints, below) in
      (λ i. differ (high_a p i) (low_b q i) && differ (high_a p i) z) ∙ ap not third ∙ not_not (nat_lt (bvsub w a b) (2 ^ (w - 1)))
      ∙ ap (λ n. nat_lt n (2 ^ (w - 1))) rest ∙ by apart (cases_lt (a - b) (2 ^ (w - 1)))
    where
      by : signed_of w a -ℤ signed_of w b ≡ pos a -ℤ pos (2 ^ w + b) → (a - b < 2 ^ (w - 1)) ⊎ (2 ^ (w - 1) ≤ a - b) → nat_lt (a - b) (2 ^ (w - 1)) ≡ not (fits_signed w (signed_of w a -ℤ signed_of w b))
      by apart (inl l) = lt-ltb (a - b) (2 ^ (w - 1)) l ∙ sym (ap not (fits_not w a (2 ^ w + b) _ apart (omega (arith, l, half, p, q))))
      by apart (inr h) = le-ltb (a - b) (2 ^ (w - 1)) h ∙ sym (ap not (fits_between w a (2 ^ w + b) _ apart (omega (arith, below)) (omega (arith, h, half, p, q))))

pub sum_signs : (w a b : ℕ) (x y z : Bool) → x ≡ not (nat_lt a (2 ^ (w - 1))) → y ≡ not (nat_lt b (2 ^ (w - 1))) → z ≡ not (nat_lt (bvadd w a b) (2 ^ (w - 1)))
    → 1 ≤ w → a < 2 ^ w → b < 2 ^ w → (not (differ x y) && differ x z) ≡ bvsaddo w a b
sum_signs w a b x y z first second third some below beyond =
    sum_by w a b x y z first second some below beyond third (cases_lt a (2 ^ (w - 1))) (cases_lt b (2 ^ (w - 1)))

pub difference_signs : (w a b : ℕ) (x y z : Bool) → x ≡ not (nat_lt a (2 ^ (w - 1))) → y ≡ not (nat_lt b (2 ^ (w - 1))) → z ≡ not (nat_lt (bvsub w a b) (2 ^ (w - 1)))
    → 1 ≤ w → a < 2 ^ w → b < 2 ^ w → (differ x y && differ x z) ≡ bvssubo w a b
difference_signs w a b x y z first second third some below beyond =
    difference_by w a b x y z first second some below beyond third (cases_lt a (2 ^ (w - 1))) (cases_lt b (2 ^ (w - 1)))
