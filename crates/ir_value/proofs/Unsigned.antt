-- With `inbounds nuw` a step within an object wraps just where its index is negative and steps over values that have a size.
use Rattle.std.proofs.Common.{◌≡◌, ◌<◌, ◌≤◌, ◌+◌, ◌-◌, ◌*◌, ◌%◌, ◌^◌, ◌⊎◌, ℕ, zero, suc, ℤ, pos, negsuc, ◌+ℤ◌, ◌*ℤ◌, Bool, true, false, not, ◌&&◌, ◌||◌, ◌==◌, if◌then◌else◌, nat_lt, nat_le, inl, inr, refl, sym, ap, subst, ◌∙◌, arith}
use Rattle.std.specs.Prelude.{int_le, int_lt}
use Rattle.std.proofs.lemmas.Int.{ints}
use Rattle.std.proofs.lemmas.Nat.{pow_pos}
use Rattle.std.proofs.Math.IntN.{neg_ℤ, pos-*ℤ-pos, negsuc-*ℤ-pos}
use Rattle.std.proofs.Math.Nat.{mod-eq_of_lt, add-mul, mul-zero, mul-le-mul_right}
use Rattle.std.proofs.Math.Pow.{pow_mono}
use Rattle.std.proofs.lemmas.Bool.{le-leb, lt-leb, le-ltb, leb-true, ltb-true, and_parts, cases_lt, ne_eqb, false≢true}
use Rattle.hk_num.specs.Numbers.{signed_of, number_of, sign_extend, bvslt}
use Rattle.hk_num.proofs.Readings.{reading_low, reading_high, halves}
use Rattle.ir_value.specs.declared.value.Value.{Value}
use Rattle.ir_value.specs.declared.value.Value.TheVariants.{Number, Null, Address, Poison}
use Rattle.ir_value.specs.Numbers.{is_width, is_number}
use Rattle.ir_value.specs.Pointers.{added_by, is_within, is_no_move, moved_within, move_by, signed_step, unsigned_by, wraps, steps_back, step_of}

-- ---- poison or a value, by one of two tests

abbrev poison_or : Bool → Value → Value
poison_or test v = if test then Poison else v

always_poison : (a b : Bool) → poison_or a Poison ≡ poison_or b Poison
always_poison true true = refl
always_poison true false = refl
always_poison false true = refl
always_poison false false = refl

and_false : (a : Bool) → (a && false) ≡ false
and_false true = refl
and_false false = refl

-- ---- the two tests, over the signed reading of an index

-- a signed reading of at most 64 bits
abbrev IsShort : ℤ → Type 0
IsShort (pos m) = m < 2 ^ 63
IsShort (negsuc k) = suc k ≤ 2 ^ 63

short : (w n : ℕ) → 1 ≤ w → w ≤ 64 → n < 2 ^ w → IsShort (signed_of w n)
short w n some within fits = by (cases_lt n (2 ^ (w - 1)))
  where
    half : 2 ^ (w - 1) ≤ 2 ^ 63
    half = pow_mono {i = w - 1} {j = 63} (omega (arith, within))

    by : (n < 2 ^ (w - 1)) ⊎ (2 ^ (w - 1) ≤ n) → IsShort (signed_of w n)
    by (inl low) = subst IsShort (sym (reading_low w n low)) (omega (arith, low, half))
    by (inr high) = subst IsShort (sym (reading_high w n high)) (omega (arith, high, half, fits, halves w some))

abbrev goes_round : ℕ → ℕ → ℕ → Bool
goes_round x u each = nat_le (2 ^ 64) (u * each) || nat_le (2 ^ 64) (x + u * each)

abbrev goes_back : ℤ → ℕ → Bool
goes_back r each = not (each == 0) && int_lt r (pos 0)

stays_low : (x m : ℕ) → x + m < 2 ^ 64 → (nat_le (2 ^ 64) m || nat_le (2 ^ 64) (x + m)) ≡ false
stays_low x m h = ap (λ b. b || nat_le (2 ^ 64) (x + m)) (lt-leb (2 ^ 64) m (omega (arith, h))) ∙ lt-leb (2 ^ 64) (x + m) h

or_true : (a : Bool) → (a || true) ≡ true
or_true true = refl
or_true false = refl

inside_of : (size y : ℕ) → is_within size (pos y) ≡ true → y ≤ size
inside_of size y h = leb-true y size (and_parts (nat_le 0 y) (nat_le y size) h).1

forwards : (x m each size : ℕ) → m < 2 ^ 63 → size < 2 ^ 64 → is_within size (pos x +ℤ (pos m *ℤ pos each)) ≡ true → goes_round x (number_of 64 (pos m)) each ≡ goes_back (pos m) each
forwards x m each size small fits inside =
    let same : m % 2 ^ 64 ≡ m = mod-eq_of_lt (omega (arith, small)) in
    let within : x + m * each ≤ size = inside_of size (x + m * each) (subst (λ z. is_within size (pos x +ℤ z) ≡ true) (pos-*ℤ-pos m each) inside) in
    ap (λ u. goes_round x u each) same ∙ stays_low x (m * each) (omega (arith, within, fits))
    ∙ sym (ap (λ b. not (each == 0) && b) (le-ltb m 0 (omega arith)) ∙ and_false (not (each == 0)))

-- back over values without a size
nowhere : (x k size : ℕ) → size < 2 ^ 64 → is_within size (pos x +ℤ (negsuc k *ℤ pos 0)) ≡ true → goes_round x (number_of 64 (negsuc k)) 0 ≡ false
nowhere x k size fits inside =
    let none : negsuc k *ℤ pos 0 ≡ pos 0 = negsuc-*ℤ-pos k 0 ∙ ap (λ n. neg_ℤ (pos n)) (mul-zero (suc k)) in
    let within : x + 0 ≤ size = inside_of size (x + 0) (subst (λ z. is_within size (pos x +ℤ z) ≡ true) none inside) in
    ap (λ p. nat_le (2 ^ 64) p || nat_le (2 ^ 64) (x + p)) (mul-zero (number_of 64 (negsuc k))) ∙ stays_low x 0 (omega (arith, within, fits))

some_bytes : (k e : ℕ) → 1 ≤ suc k * suc e
some_bytes k e = omega (arith, mul-le-mul_right {m = 1} {n = suc k} (suc e) (omega arith))

product_back : (k e : ℕ) → negsuc k *ℤ pos (suc e) ≡ negsuc (suc k * suc e - 1)
product_back k e =
    let some : 1 ≤ suc k * suc e = some_bytes k e in
    let bytes : suc k * suc e ≡ suc (suc k * suc e - 1) = omega (arith, some) in
    negsuc-*ℤ-pos k (suc e) ∙ ap (λ n. neg_ℤ (pos n)) bytes

goes_back_there : (k e : ℕ) → goes_back (negsuc k) (suc e) ≡ true
goes_back_there k e = ap (λ b. not b && true) (ne_eqb (suc e) 0 (omega arith))

-- so many bytes back stay inside where there are as many before the start
backed : (x j size : ℕ) → is_within size (pos x +ℤ negsuc j) ≡ true → j < x
backed x j size inside = by (cases_lt j x)
  where
    clash : is_within size (negsuc (j - x)) ≡ true → ⊥
    clash e = absurd (false≢true e)

    by : (j < x) ⊎ (x ≤ j) → j < x
    by (inl h) = h
    by (inr h) =
        let sum : pos x +ℤ negsuc j ≡ negsuc (j - x) = omega (arith, ints, h) in
        absurd (clash (subst (λ z. is_within size z ≡ true) sum inside))

backwards : (x k e size : ℕ) → suc k ≤ 2 ^ 63 → is_within size (pos x +ℤ (negsuc k *ℤ pos (suc e))) ≡ true → goes_round x (number_of 64 (negsuc k)) (suc e) ≡ true
backwards x k e size small inside =
    let u = number_of 64 (negsuc k) in
    let is : u ≡ 2 ^ 64 - suc k = omega (arith, small) in
    let j = suc k * suc e - 1 in
    let some : 1 ≤ suc k * suc e = some_bytes k e in
    let product : negsuc k *ℤ pos (suc e) ≡ negsuc j = product_back k e in
    let before : j < x = backed x j size (subst (λ z. is_within size (pos x +ℤ z) ≡ true) product inside) in
    let both : 2 ^ 64 ≡ suc k + u = omega (arith, is, small) in
    let whole : 2 ^ 64 * suc e ≡ suc k * suc e + u * suc e = ap (λ n. n * suc e) both ∙ add-mul (suc k) u (suc e) in
    let least : 2 ^ 64 ≤ 2 ^ 64 * suc e = omega arith in
    ap (λ b. nat_le (2 ^ 64) (u * suc e) || b) (le-leb (2 ^ 64) (x + u * suc e) (omega (arith, whole, least, before, some))) ∙ or_true (nat_le (2 ^ 64) (u * suc e))

tests : (r : ℤ) (x each size : ℕ) → IsShort r → size < 2 ^ 64 → is_within size (pos x +ℤ (r *ℤ pos each)) ≡ true → goes_round x (number_of 64 r) each ≡ goes_back r each
tests (pos m) x each size small fits inside = forwards x m each size small fits inside
tests (negsuc k) x zero size small fits inside = nowhere x k size fits inside
tests (negsuc k) x (suc e) size small fits inside = backwards x k e size small inside ∙ sym (goes_back_there k e)

-- ---- the values

moved : (size o x each : ℕ) (r : ℤ) → IsShort r → size < 2 ^ 64
    → poison_or (goes_round x (number_of 64 r) each) (moved_within size o (pos x +ℤ (r *ℤ pos each))) ≡ poison_or (goes_back r each) (moved_within size o (pos x +ℤ (r *ℤ pos each)))
moved size o x each r small fits = by (is_within size (pos x +ℤ (r *ℤ pos each))) (tests r x each size small fits)
  where
    there : Value
    there = Address o (number_of 64 (pos x +ℤ (r *ℤ pos each)))

    by : (inside : Bool) → (inside ≡ true → goes_round x (number_of 64 r) each ≡ goes_back r each)
        → poison_or (goes_round x (number_of 64 r) each) (if inside then there else Poison) ≡ poison_or (goes_back r each) (if inside then there else Poison)
    by true same = ap (λ b. poison_or b there) (same refl)
    by false same = always_poison (goes_round x (number_of 64 r) each) (goes_back r each)

from_null : (each : ℕ) (r : ℤ) → (if is_no_move true (r *ℤ pos each) then Null else Poison) ≡ poison_or (goes_back r each) (if is_no_move true (r *ℤ pos each) then Null else Poison)
from_null each (pos m) =
    sym (ap (λ b. poison_or b (if is_no_move true (pos m *ℤ pos each) then Null else Poison)) (ap (λ b. not (each == 0) && b) (le-ltb m 0 (omega arith)) ∙ and_false (not (each == 0))))
from_null zero (negsuc k) = refl
from_null (suc e) (negsuc k) =
    let none : (if is_no_move true (negsuc k *ℤ pos (suc e)) then Null else Poison) ≡ Poison = ap (λ z. if is_no_move true z then Null else Poison) (product_back k e) in
    subst (λ v. v ≡ poison_or (goes_back (negsuc k) (suc e)) v) (sym none) (always_poison false (goes_back (negsuc k) (suc e)))

-- an index that is a number of the width
indexed : (size w each n : ℕ) (v : Value) → size < 2 ^ 64 → 1 ≤ w → w ≤ 64 → n < 2 ^ w
    → poison_or (wraps w each (Number n) v) (move_by true size (added_by w n each) v) ≡ poison_or (not (each == 0) && bvslt w n 0) (move_by true size (added_by w n each) v)
indexed size w each n v fits some within number =
    by v ∙ ap (λ z. poison_or (not (each == 0) && int_lt (signed_of w n) z) (move_by true size (added_by w n each) v)) (sym (reading_low w 0 (pow_pos (w - 1))))
  where
    by : (v : Value) → poison_or (wraps w each (Number n) v) (move_by true size (added_by w n each) v) ≡ poison_or (goes_back (signed_of w n) each) (move_by true size (added_by w n each) v)
    by (Address o x) = moved size o x each (signed_of w n) (short w n some within number) fits
    by Null = from_null each (signed_of w n)
    by (Number m) = always_poison false (goes_back (signed_of w n) each)
    by Poison = always_poison false (goes_back (signed_of w n) each)

taken : (size w each n : ℕ) (v : Value) → size < 2 ^ 64 → (a b : Bool) → is_width w ≡ a → is_number w n ≡ b
    → poison_or (wraps w each (Number n) v) (if a && b then move_by true size (added_by w n each) v else Poison) ≡ poison_or ((a && b) && (not (each == 0) && bvslt w n 0)) (if a && b then move_by true size (added_by w n each) v else Poison)
taken size w each n v fits true true e f =
    let p = and_parts (nat_le 1 w) (nat_le w 64) e in
    indexed size w each n v fits (leb-true 1 w p.0) (leb-true w 64 p.1) (ltb-true n (2 ^ w) f)
taken size w each n v fits true false e f = always_poison (wraps w each (Number n) v) false
taken size w each n v fits false b e f = always_poison (wraps w each (Number n) v) false

-- the step with its flags, told by the sign of the index
pub by_sign : (inbounds nuw : Bool) (size w each : ℕ) (i v : Value) → size < 2 ^ 64
    → step_of inbounds nuw size w each i v ≡ (if (inbounds && nuw) && steps_back w each i then Poison else signed_step inbounds size w each i v)
by_sign false nuw size w each i v fits = refl
by_sign true false size w each i v fits = refl
by_sign true true size w each (Number n) v fits = taken size w each n v fits (is_width w) (is_number w n) refl refl
by_sign true true size w each Null v fits = refl
by_sign true true size w each (Address o x) v fits = refl
by_sign true true size w each Poison v fits = refl
