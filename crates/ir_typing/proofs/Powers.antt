-- Numbers against powers of two.
use Rattle.std.proofs.Common.{◌≡◌, ◌⊎◌, inl, inr, ℕ, suc, ◌+◌, ◌-◌, ◌*◌, ◌/◌, ◌%◌, ◌^◌, ◌<◌, ◌≤◌, true, ◌==◌, nat_lt, ℤ, pos, negsuc, refl, sym, ◌∙◌, ap, arith, lit<, Bool, false, nat_eq, int_eq, of_z, to_z, to_z-of_z, FitsSigned, mod-lt, mod-eq_of_lt}
use Rattle.std.proofs.lemmas.Int.{ints}
use Rattle.std.specs.Prelude.{◌<ℤ◌, ◌≤ℤ◌, unsigned_abs}
use Rattle.std.proofs.Math.Nat.{one-le-pow, div-eq_of_lt, lt-div-mul-add}
use Rattle.std.proofs.Math.Pow.{pow_mono}
use Rattle.std.proofs.lemmas.Bool.{cases_lt, lt-ltb, le-ltb, ne_eqb, eqb-true, eq-eqb}
use Rattle.std.specs.Int.{w128}
use Rattle.std.specs.Bool.{Decides}
use Rattle.std.proofs.lemmas.Bool.Decides.{Decides-int_eq}
use Rattle.ir_typing.specs.Fits.{fits_width, modulo}

pub beyond : (n e : ℕ) → n < 2 ^ 128 → 128 ≤ e → true ≡ nat_lt n (2 ^ e)
beyond n e l m =
    let p : 2 ^ 128 ≤ 2 ^ e = pow_mono m in
    sym (lt-ltb n (2 ^ e) (omega (arith, l, p)))

pub shifted : (n e : ℕ) → ((n / 2 ^ e) == 0) ≡ nat_lt n (2 ^ e)
shifted n e = pick (cases_lt n (2 ^ e))
  where
    some : 0 < 2 ^ e
    some = one-le-pow e 2 (lit< tt)

    pick : (n < 2 ^ e) ⊎ (2 ^ e ≤ n) → ((n / 2 ^ e) == 0) ≡ nat_lt n (2 ^ e)
    pick (inl l) =
        let is : n / 2 ^ e ≡ 0 = div-eq_of_lt l in
        ap (λ q. q == 0) is ∙ sym (lt-ltb n (2 ^ e) l)
    pick (inr l) =
        let above : n < n / 2 ^ e * 2 ^ e + 2 ^ e = lt-div-mul-add some in
        ne_eqb (n / 2 ^ e) 0 (λ is. let z : n / 2 ^ e * 2 ^ e ≡ 0 * 2 ^ e = ap (λ q. q * 2 ^ e) is in omega (arith, above, l, z))
        ∙ sym (le-ltb n (2 ^ e) l)

pub fits_negative : (w : ℕ) (n : ℤ) → n <ℤ pos 0 → nat_lt (unsigned_abs n - 1) (2 ^ (w - 1)) ≡ fits_width w n
fits_negative w (pos n) l = absurd (omega (arith, ints, l))
fits_negative w (negsuc n) l = let e : suc n - 1 ≡ n = omega arith in ap (λ k. nat_lt k (2 ^ (w - 1))) e

pub fits_positive : (w : ℕ) (n : ℤ) → pos 0 ≤ℤ n → nat_lt (unsigned_abs n) (2 ^ w) ≡ fits_width w n
fits_positive w (pos n) l = refl
fits_positive w (negsuc n) l = absurd (omega (arith, ints, l))

pub modulo_negative : (w : ℕ) (n : ℤ) → n <ℤ pos 0 → 2 ^ w - 1 - (unsigned_abs n - 1) % 2 ^ w ≡ modulo w n
modulo_negative w (pos n) l = absurd (omega (arith, ints, l))
modulo_negative w (negsuc n) l = let e : suc n - 1 ≡ n = omega arith in ap (λ k. 2 ^ w - 1 - k % 2 ^ w) e

pub modulo_positive : (w : ℕ) (n : ℤ) → pos 0 ≤ℤ n → unsigned_abs n % 2 ^ w ≡ modulo w n
modulo_positive w (pos n) l = refl
modulo_positive w (negsuc n) l = absurd (omega (arith, ints, l))

modulo_below : (w : ℕ) (n : ℤ) → modulo w n < 2 ^ w
modulo_below w (pos n) = mod-lt n (one-le-pow w 2 (lit< tt))
modulo_below w (negsuc n) = let some : 0 < 2 ^ w = one-le-pow w 2 (lit< tt) in omega (arith, some)

pub modulo_fits : (w : ℕ) (n : ℤ) → w ≤ 64 → modulo w n < 2 ^ 64
modulo_fits w n l =
    let most : 2 ^ w ≤ 2 ^ 64 = pow_mono l in
    let below : modulo w n < 2 ^ w = modulo_below w n in
    omega (arith, most, below)

-- ---- widths beyond all numbers

-- two tests of one fact
agree : {P : Type 0} (a b : Bool) → Decides a P → Decides b P → a ≡ b
agree true b h k = sym (k.1 (h.0 refl))
agree false true h k = h.1 (k.0 refl)
agree false false h k = refl

abbrev pub distance : ℤ → ℕ
distance (pos n) = n
distance (negsuc n) = n

one_beyond : (w : ℕ) (m n : ℤ) → 2 ^ 128 ≤ 2 ^ w → distance m < 2 ^ 127 → distance n < 2 ^ 127 → modulo w m ≡ modulo w n → m ≡ n
one_beyond w (pos a) (pos b) far la lb e =
    let a_in : a < 2 ^ w = omega (arith, far, la) in
    let b_in : b < 2 ^ w = omega (arith, far, lb) in
    let whole_a : a % 2 ^ w ≡ a = mod-eq_of_lt a_in in
    let whole_b : b % 2 ^ w ≡ b = mod-eq_of_lt b_in in
    ap pos (sym whole_a ∙ e ∙ whole_b)
one_beyond w (pos a) (negsuc b) far la lb e =
    let a_in : a < 2 ^ w = omega (arith, far, la) in
    let b_in : b < 2 ^ w = omega (arith, far, lb) in
    let whole_a : a % 2 ^ w ≡ a = mod-eq_of_lt a_in in
    let whole_b : b % 2 ^ w ≡ b = mod-eq_of_lt b_in in
    let same : a ≡ 2 ^ w - 1 - b = sym whole_a ∙ e ∙ ap (λ x. 2 ^ w - 1 - x) whole_b in
    absurd (omega (arith, far, la, lb, same))
one_beyond w (negsuc a) (pos b) far la lb e =
    let a_in : a < 2 ^ w = omega (arith, far, la) in
    let b_in : b < 2 ^ w = omega (arith, far, lb) in
    let whole_a : a % 2 ^ w ≡ a = mod-eq_of_lt a_in in
    let whole_b : b % 2 ^ w ≡ b = mod-eq_of_lt b_in in
    let same : 2 ^ w - 1 - a ≡ b = sym (ap (λ x. 2 ^ w - 1 - x) whole_a) ∙ e ∙ whole_b in
    absurd (omega (arith, far, la, lb, same))
one_beyond w (negsuc a) (negsuc b) far la lb e =
    let a_in : a < 2 ^ w = omega (arith, far, la) in
    let b_in : b < 2 ^ w = omega (arith, far, lb) in
    let whole_a : a % 2 ^ w ≡ a = mod-eq_of_lt a_in in
    let whole_b : b % 2 ^ w ≡ b = mod-eq_of_lt b_in in
    let same : 2 ^ w - 1 - a ≡ 2 ^ w - 1 - b = sym (ap (λ x. 2 ^ w - 1 - x) whole_a) ∙ e ∙ ap (λ x. 2 ^ w - 1 - x) whole_b in
    let one : a ≡ b = omega (arith, a_in, b_in, same) in
    ap negsuc one

pub signed_distance : (n : ℤ) → FitsSigned w128 n → distance n < 2 ^ 127
signed_distance (pos n) f = omega (arith, ints, f)
signed_distance (negsuc n) f = omega (arith, ints, f)

-- `==` at 128 bits
pub whole_test : (m n : ℤ) → FitsSigned w128 m → FitsSigned w128 n → nat_eq (of_z w128 m) (of_z w128 n) ≡ int_eq m n
whole_test m n f g =
    agree {P = m ≡ n} (nat_eq (of_z w128 m) (of_z w128 n)) (int_eq m n)
    (λ h. sym (to_z-of_z f) ∙ ap (to_z w128) (eqb-true (of_z w128 m) (of_z w128 n) h) ∙ to_z-of_z g, λ e. eq-eqb (of_z w128 m) (of_z w128 n) (ap (of_z w128) e))
    (Decides-int_eq m n)

pub same_beyond : (w : ℕ) (m n : ℤ) → 128 ≤ w → distance m < 2 ^ 127 → distance n < 2 ^ 127 → int_eq m n ≡ (modulo w m == modulo w n)
same_beyond w m n far lm ln =
    let most : 2 ^ 128 ≤ 2 ^ w = pow_mono far in
    agree {P = m ≡ n} (int_eq m n) (modulo w m == modulo w n) (Decides-int_eq m n)
    (λ h. one_beyond w m n most lm ln (eqb-true (modulo w m) (modulo w n) h), λ e. eq-eqb (modulo w m) (modulo w n) (ap (modulo w) e))
