-- Laws of comparisons with a number, of powers of two, and of shifts by all bits.
use Rattle.std.proofs.Common.{◌≡◌, ◌≢◌, ◌+◌, ◌-◌, ◌*◌, ◌/◌, ◌%◌, ◌^◌, ◌<◌, ◌≤◌, ◌⊎◌, ℕ, zero, suc, ℤ, pos, negsuc, IsTrue, Bool, true, false, ◌&&◌, cond, nat_eq, bit_and, arith, ap, sym, ◌∙◌, refl, inl, inr}
use Rattle.std.specs.Int.{int_div_euclid}
use Rattle.std.proofs.Math.Nat.{mod-eq_of_lt, div-eq_of_lt, div-lt_iff_lt-mul, div-add-mod'}
use Rattle.std.proofs.Math.Pow.{pow-lt, pow_mono}
use Rattle.std.proofs.lemmas.Nat.{and_mask, field_of, mod_low, pow_pos, pow-add, shr_high}
use Rattle.std.proofs.lemmas.Bool.{eq-eqb, ne_eqb, ltb-true}
use Rattle.std.proofs.lemmas.Bool.Decides.{eqb_tells}
use Rattle.hk_num.specs.Numbers.{signed_of, number_of, fits_signed, sign_extend, bvashr}
use Rattle.hk_num.proofs.Algebra.{cut_extended, reading_fits_width}
use Rattle.hk_term.specs.Operations.{bit, urem_value}
use Rattle.hk_simplify.proofs.SumLaws.{nat_eq-iff}

pub below_power : (k : ℕ) → k < 2 ^ k
below_power zero = omega arith
below_power (suc k) = let next : 2 ^ k < 2 ^ suc k = pow-lt (omega arith) in omega (arith, below_power k, next)

pub power_fits : (k w : ℕ) → k < w → k < 2 ^ w
power_fits k w h = omega (arith, below_power k, pow-lt h)

-- ---- a number that was extended

-- the lowest bits of a number that is below
low_bits : (u n low : ℕ) → low ≡ bit_and n (2 ^ u - 1) → low ≡ n % 2 ^ u
low_bits u n low is = is ∙ and_mask n u

pub zeros_unequal : (u n a low : ℕ) → low ≡ bit_and n (2 ^ u - 1) → low ≢ n → a < 2 ^ u → 0 ≡ bit (nat_eq a n)
zeros_unequal u n a low is differs below =
    sym (ap bit (ne_eqb a n (λ e. differs (low_bits u n low is ∙ mod-eq_of_lt (omega (arith, e, below))))))

signs_back : (u w n x a low : ℕ) → low ≡ bit_and n (2 ^ u - 1) → a ≡ sign_extend u w x → u ≤ w → x < 2 ^ u → a ≡ n → x ≡ low
signs_back u w n x a low is known wider below e =
    sym (cut_extended u w x wider below) ∙ ap (λ k. k % 2 ^ u) (sym known ∙ e) ∙ sym (low_bits u n low is)

pub signs_equal : (u w n x a low : ℕ) → low ≡ bit_and n (2 ^ u - 1) → sign_extend u w low ≡ n → a ≡ sign_extend u w x → u ≤ w → x < 2 ^ u → bit (nat_eq x low) ≡ bit (nat_eq a n)
signs_equal u w n x a low is same known wider below =
    ap bit (nat_eq-iff x low a n (λ e. known ∙ ap (sign_extend u w) e ∙ same) (signs_back u w n x a low is known wider below))

pub signs_unequal : (u w n x a low : ℕ) → low ≡ bit_and n (2 ^ u - 1) → sign_extend u w low ≢ n → a ≡ sign_extend u w x → u ≤ w → x < 2 ^ u → 0 ≡ bit (nat_eq a n)
signs_unequal u w n x a low is differs known wider below =
    sym (ap bit (ne_eqb a n (λ e. differs (ap (sign_extend u w) (sym (signs_back u w n x a low is known wider below e)) ∙ sym known ∙ e))))

-- ---- a concatenation

pub high_below : (w u n : ℕ) → n < 2 ^ (w + u) → n / 2 ^ u < 2 ^ w
high_below w u n below = (div-lt_iff_lt-mul (pow_pos u)).1 (omega (arith, below, pow-add 2 w u))

both : (p q : Bool) → bit_and (bit p) (bit q) ≡ bit (p && q)
both true true = refl
both true false = refl
both false true = refl
both false false = refl

pub halves_value : (u x y n low : ℕ) → low ≡ bit_and n (2 ^ u - 1) → y < 2 ^ u → bit_and (bit (nat_eq x (n / 2 ^ u))) (bit (nat_eq y low)) ≡ bit (nat_eq (x * 2 ^ u + y) n)
halves_value u x y n low is below = both (nat_eq x (n / 2 ^ u)) (nat_eq y low) ∙ ap bit (by (eqb_tells x (n / 2 ^ u)) (eqb_tells y low))
  where
    by : ((nat_eq x (n / 2 ^ u) ≡ true) × (x ≡ n / 2 ^ u)) ⊎ ((nat_eq x (n / 2 ^ u) ≡ false) × (x ≢ n / 2 ^ u)) → ((nat_eq y low ≡ true) × (y ≡ low)) ⊎ ((nat_eq y low ≡ false) × (y ≢ low)) → (nat_eq x (n / 2 ^ u) && nat_eq y low) ≡ nat_eq (x * 2 ^ u + y) n
    by (inl p) (inl q) =
        let whole : x * 2 ^ u + y ≡ n = (λ i. p.1 i * 2 ^ u + (q.1 ∙ low_bits u n low is) i) ∙ div-add-mod' n (2 ^ u) in
        (λ i. p.0 i && q.0 i) ∙ sym (eq-eqb (x * 2 ^ u + y) n whole)
    by (inl p) (inr q) =
        (λ i. p.0 i && q.0 i)
        ∙ sym (ne_eqb (x * 2 ^ u + y) n (λ e. q.1 (sym (mod_low x u y below) ∙ ap (λ k. k % 2 ^ u) e ∙ sym (low_bits u n low is))))
    by (inr p) q =
        (λ i. p.0 i && nat_eq y low) ∙ sym (ne_eqb (x * 2 ^ u + y) n (λ e. p.1 (sym (shr_high x u y below) ∙ ap (λ k. k / 2 ^ u) e)))

-- ---- powers of two

pub urem_power : (w a b k : ℕ) → b ≡ 2 ^ k → bit_and a (2 ^ k - 1) ≡ urem_value w a b
urem_power w a b k is =
    and_mask a k ∙ sym (ap (urem_value w a) is ∙ ap (λ c. cond c a (a % 2 ^ k)) (ne_eqb (2 ^ k) 0 (λ e. omega (arith, e, pow_pos k))))

-- ---- copies of the sign

no_quotient : (n k b : ℕ) → n < 2 ^ k → k ≤ b → n / 2 ^ b ≡ 0
no_quotient n k b below h = div-eq_of_lt (omega (arith, below, pow_mono h))

pub signs_only : (w b : ℕ) (z : ℤ) → IsTrue (fits_signed w z) → w - 1 ≤ b → int_div_euclid z (pos (2 ^ (w - 1))) ≡ int_div_euclid z (pos (2 ^ b))
signs_only w b (pos n) fits h =
    let below = ltb-true n (2 ^ (w - 1)) fits in
    ap pos (no_quotient n (w - 1) (w - 1) below (omega arith) ∙ sym (no_quotient n (w - 1) b below h))
signs_only w b (negsuc n) fits h =
    let below = ltb-true n (2 ^ (w - 1)) fits in
    ap negsuc (no_quotient n (w - 1) (w - 1) below (omega arith) ∙ sym (no_quotient n (w - 1) b below h))

pub signs_value : (w a b : ℕ) → 1 ≤ w → a < 2 ^ w → w ≤ b → bvashr w a (w - 1) ≡ bvashr w a b
signs_value w a b some below beyond =
    ap (number_of w) (signs_only w b (signed_of w a) (reading_fits_width w a some below) (omega (arith, beyond)))

-- ---- bits across the border of an extension by zeros

bits_to_top : (to low u x : ℕ) → x < 2 ^ u → u ≤ to + low → x / 2 ^ low ≡ x / 2 ^ low % 2 ^ to
bits_to_top to low u x below h =
    let fits : x < 2 ^ (to + low) = omega (arith, below, pow_mono h) in
    sym (ap (λ k. k / 2 ^ low) (mod-eq_of_lt fits)) ∙ field_of x to low

pub border_zeros : (to low u x a : ℕ) → a ≡ x → x < 2 ^ u → u < low + to → x / 2 ^ low % 2 ^ (u - low) ≡ a / 2 ^ low % 2 ^ to
border_zeros to low u x a is below across =
    let part : u ≤ (u - low) + low = omega arith in
    let all : u ≤ to + low = omega (arith, across) in
    sym (bits_to_top (u - low) low u x below part) ∙ bits_to_top to low u x below all ∙ ap (λ k. k / 2 ^ low % 2 ^ to) (sym is)
