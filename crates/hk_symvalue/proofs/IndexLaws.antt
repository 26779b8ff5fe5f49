-- Laws of the steps of a `getelementptr`, on plain numbers.
use Rattle.std.proofs.Common.{◌≡◌, ◌≢◌, ◌<◌, ◌≤◌, ◌^◌, ◌+◌, ◌-◌, ◌*◌, ◌/◌, ◌%◌, ◌⊎◌, ℕ, zero, suc, ℤ, pos, negsuc, ◌+ℤ◌, ◌*ℤ◌, Bool, true, false, not, ◌&&◌, ◌||◌, ◌==◌, if◌then◌else◌, nat_eq, nat_lt, nat_le, unsigned_abs, inl, inr, refl, sym, ap, ◌∙◌, arith}
use Rattle.std.proofs.lemmas.Int.{ints}
use Rattle.std.proofs.Math.IntN.{neg_ℤ, pos-*ℤ-pos, negsuc-*ℤ-pos}
use Rattle.std.proofs.Math.Nat.{mod-eq_of_lt, div-lt_iff_lt-mul, le-div_iff_mul-le, mul-zero}
use Rattle.std.proofs.lemmas.Bool.{lt-ltb, le-ltb, le-leb, lt-leb, cases_lt, ne_eqb, ltb-true}
use Rattle.std.specs.Prelude.{int_lt}
use Rattle.std.proofs.lemmas.Nat.{pow_pos}
use Rattle.hk_num.specs.Numbers.{number_of, signed_of, bvslt}
use Rattle.hk_num.proofs.Readings.{reading_low}
use Rattle.ir_value.proofs.Unsigned.{by_sign}
use Rattle.ir_value.specs.declared.value.Value.{Value}
use Rattle.ir_value.specs.declared.value.Value.TheVariants.{Number, Null, Address, Poison}
use Rattle.ir_value.specs.Numbers.{is_width, is_number}
use Rattle.ir_value.specs.Pointers.{added_by, is_within, is_no_move, move_by, signed_step, wraps, steps_back, step_of}
use Rattle.hk_symvalue.specs.Meaning.{based, stands_for}
use Rattle.hk_symvalue.specs.Indices.{distance, is_back, delta_of, leaves_object, stays_at}

pub over_by_quotient : (m each : ℕ) → each ≢ 0 → nat_lt ((2 ^ 64 - 1) / each) m ≡ nat_le (2 ^ 64) (m * each)
over_by_quotient m each some = by (cases_lt (2 ^ 64 - 1) (m * each))
  where
    positive : 0 < each
    positive = omega (arith, some)

    by : (2 ^ 64 - 1 < m * each) ⊎ (m * each ≤ 2 ^ 64 - 1) → nat_lt ((2 ^ 64 - 1) / each) m ≡ nat_le (2 ^ 64) (m * each)
    by (inl over) = lt-ltb ((2 ^ 64 - 1) / each) m ((div-lt_iff_lt-mul positive).1 over) ∙ sym (le-leb (2 ^ 64) (m * each) (omega (arith, over)))
    by (inr fits) = le-ltb ((2 ^ 64 - 1) / each) m ((le-div_iff_mul-le positive).1 fits) ∙ sym (lt-leb (2 ^ 64) (m * each) (omega (arith, fits)))

pub none_over : (m each : ℕ) → each ≡ 0 → false ≡ nat_le (2 ^ 64) (m * each)
none_over m each e = sym (lt-leb (2 ^ 64) (m * each) (omega (arith, ap (λ n. m * n) e ∙ mul-zero m)))

-- so many bytes forwards or back, as a whole number
abbrev way : Bool → ℕ → ℤ
way back n = if back then neg_ℤ (pos n) else pos n

added_is : (w n each : ℕ) → added_by w n each ≡ way (is_back w n) (distance w n each)
added_is w n each = by (nat_lt n (2 ^ (w - 1)))
  where
    by : (t : Bool) → (if t then pos n else negsuc (2 ^ w - 1 - n)) *ℤ pos each ≡ way (not t) (unsigned_abs (if t then pos n else negsuc (2 ^ w - 1 - n)) * each)
    by true = pos-*ℤ-pos n each
    by false = negsuc-*ℤ-pos (2 ^ w - 1 - n) each

way_delta : (back : Bool) (n : ℕ) → number_of 64 (way back n) ≡ delta_of back n
way_delta false n = refl
way_delta true zero = refl
way_delta true (suc k) = omega arith

-- ---- sums

sum_is : (back : Bool) (n x : ℕ) → number_of 64 (pos x +ℤ way back n) ≡ (x + delta_of back n) % 2 ^ 64
sum_is false n x = omega arith
sum_is true zero x = omega arith
sum_is true (suc k) x = by (cases_lt k x)
  where
    by : (k < x) ⊎ (x ≤ k) → number_of 64 (pos x +ℤ negsuc k) ≡ (x + delta_of true (suc k)) % 2 ^ 64
    by (inl h) =
        let sum : pos x +ℤ negsuc k ≡ pos (x - suc k) = omega (arith, ints, h) in
        ap (number_of 64) sum ∙ omega (arith, h)
    by (inr h) =
        let sum : pos x +ℤ negsuc k ≡ negsuc (k - x) = omega (arith, ints, h) in
        ap (number_of 64) sum ∙ omega (arith, h)

over_zero : (a : ℕ) (t : Bool) → (nat_le 0 a && t) ≡ t
over_zero a t = ap (λ u. u && t) (le-leb 0 a (omega arith))

within_is : (back : Bool) (n x size y : ℕ) → x < 2 ^ 64 → size < 2 ^ 64 → y ≡ (x + delta_of back n) % 2 ^ 64
    → is_within size (pos x +ℤ way back n) ≡ not (leaves_object (nat_le (2 ^ 64) n) back size x y)
within_is false n x size y p q e = over_zero (x + n) (nat_le (x + n) size) ∙ by (cases_lt n (2 ^ 64)) (cases_lt (x + n) (2 ^ 64))
  where
    inside : n < 2 ^ 64 → y ≡ x + n → (size < x + n) ⊎ (x + n ≤ size) → nat_le (x + n) size ≡ not (leaves_object (nat_le (2 ^ 64) n) false size x y)
    inside h f (inl over) =
        lt-leb (x + n) size over ∙ sym (λ i. not (lt-leb (2 ^ 64) n h i || (le-ltb y x (omega (arith, f)) i || lt-ltb size y (omega (arith, f, over)) i)))
    inside h f (inr fits) =
        le-leb (x + n) size fits ∙ sym (λ i. not (lt-leb (2 ^ 64) n h i || (le-ltb y x (omega (arith, f)) i || le-ltb size y (omega (arith, f, fits)) i)))

    by : (n < 2 ^ 64) ⊎ (2 ^ 64 ≤ n) → (x + n < 2 ^ 64) ⊎ (2 ^ 64 ≤ x + n) → nat_le (x + n) size ≡ not (leaves_object (nat_le (2 ^ 64) n) false size x y)
    by (inr far) s = lt-leb (x + n) size (omega (arith, far, q)) ∙ sym (λ i. not (le-leb (2 ^ 64) n far i || (nat_lt y x || nat_lt size y)))
    by (inl near) (inl h) = inside near (omega (arith, e, h)) (cases_lt size (x + n))
    by (inl near) (inr h) =
        lt-leb (x + n) size (omega (arith, h, q)) ∙ sym (λ i. not (lt-leb (2 ^ 64) n near i || (lt-ltb y x (omega (arith, e, h, near, p)) i || nat_lt size y)))
within_is true zero x size y p q e = over_zero (x + 0) (nat_le (x + 0) size) ∙ by (cases_lt size x)
  where
    same : y ≡ x
    same = omega (arith, e, p)

    by : (size < x) ⊎ (x ≤ size) → nat_le (x + 0) size ≡ not (leaves_object false true size x y)
    by (inl over) = lt-leb (x + 0) size (omega (arith, over)) ∙ sym (λ i. not (le-ltb x y (omega (arith, same)) i || lt-ltb size y (omega (arith, same, over)) i))
    by (inr fits) = le-leb (x + 0) size (omega (arith, fits)) ∙ sym (λ i. not (le-ltb x y (omega (arith, same)) i || le-ltb size y (omega (arith, same, fits)) i))
within_is true (suc k) x size y p q e = by (cases_lt k x)
  where
    inside : k < x → (size < x - suc k) ⊎ (x - suc k ≤ size) → nat_le (x - suc k) size ≡ not (leaves_object (nat_le (2 ^ 64) (suc k)) true size x y)
    inside h (inl over) =
        let place : y ≡ x - suc k = omega (arith, e, h, p) in
        lt-leb (x - suc k) size over ∙ sym (λ i. not (lt-leb (2 ^ 64) (suc k) (omega (arith, h, p)) i || (le-ltb x y (omega (arith, place)) i || lt-ltb size y (omega (arith, place, over)) i)))
    inside h (inr fits) =
        let place : y ≡ x - suc k = omega (arith, e, h, p) in
        le-leb (x - suc k) size fits ∙ sym (λ i. not (lt-leb (2 ^ 64) (suc k) (omega (arith, h, p)) i || (le-ltb x y (omega (arith, place)) i || le-ltb size y (omega (arith, place, fits)) i)))

    outside : x ≤ k → (suc k < 2 ^ 64) ⊎ (2 ^ 64 ≤ suc k) → false ≡ not (leaves_object (nat_le (2 ^ 64) (suc k)) true size x y)
    outside h (inl near) =
        let place : y ≡ x + 2 ^ 64 - suc k = omega (arith, e, h, near, p) in
        sym (λ i. not (lt-leb (2 ^ 64) (suc k) near i || (lt-ltb x y (omega (arith, place, near, h)) i || nat_lt size y)))
    outside h (inr far) = sym (λ i. not (le-leb (2 ^ 64) (suc k) far i || (nat_lt x y || nat_lt size y)))

    by : (k < x) ⊎ (x ≤ k) → is_within size (pos x +ℤ negsuc k) ≡ not (leaves_object (nat_le (2 ^ 64) (suc k)) true size x y)
    by (inl h) =
        let sum : pos x +ℤ negsuc k ≡ pos (x - suc k) = omega (arith, ints, h) in
        ap (is_within size) sum ∙ over_zero (x - suc k) (nat_le (x - suc k) size) ∙ inside h (cases_lt size (x - suc k))
    by (inr h) =
        let sum : pos x +ℤ negsuc k ≡ negsuc (k - x) = omega (arith, ints, h) in
        ap (is_within size) sum ∙ outside h (cases_lt (suc k) (2 ^ 64))

-- ---- null

not_not : (b : Bool) → b ≡ not (not b)
not_not true = refl
not_not false = refl

stays_is : (inbounds back : Bool) (n : ℕ) → is_no_move inbounds (way back n) ≡ not ((inbounds && nat_le (2 ^ 64) n) || not (delta_of back n == 0))
stays_is false back n = ap (λ d. d == 0) (way_delta back n) ∙ not_not (delta_of back n == 0)
stays_is true false zero = refl
stays_is true true zero = refl
stays_is true false (suc k) = over_zero (suc k) (nat_le (suc k) 0) ∙ lt-leb (suc k) 0 (omega arith) ∙ by (cases_lt (suc k) (2 ^ 64))
  where
    by : (suc k < 2 ^ 64) ⊎ (2 ^ 64 ≤ suc k) → false ≡ not (nat_le (2 ^ 64) (suc k) || not (delta_of false (suc k) == 0))
    by (inl near) = sym (λ i. not (lt-leb (2 ^ 64) (suc k) near i || not (ne_eqb (delta_of false (suc k)) 0 (λ (h : suc k % 2 ^ 64 ≡ 0). absurd (omega (arith, h, near))) i)))
    by (inr far) = sym (λ i. not (le-leb (2 ^ 64) (suc k) far i || not (delta_of false (suc k) == 0)))
stays_is true true (suc k) = by (cases_lt (suc k) (2 ^ 64))
  where
    by : (suc k < 2 ^ 64) ⊎ (2 ^ 64 ≤ suc k) → false ≡ not (nat_le (2 ^ 64) (suc k) || not (delta_of true (suc k) == 0))
    by (inl near) =
        sym (λ i. not (lt-leb (2 ^ 64) (suc k) near i || not (ne_eqb (delta_of true (suc k)) 0 (λ (h : (2 ^ 64 - suc k % 2 ^ 64) % 2 ^ 64 ≡ 0). absurd (omega (arith, h, near))) i)))
    by (inr far) = sym (λ i. not (le-leb (2 ^ 64) (suc k) far i || not (delta_of true (suc k) == 0)))

-- ---- a whole step

-- a step by so many bytes, of a pointer that is not poison
moved_is : (inbounds back : Bool) (n base x size y : ℕ) → x < 2 ^ 64 → size < 2 ^ 64 → y ≡ (x + delta_of back n) % 2 ^ 64
    → stands_for (stays_at inbounds back (nat_le (2 ^ 64) n) (delta_of back n) base x size) base y ≡ move_by inbounds size (way back n) (based base x)
moved_is inbounds back n base x size y p q e = by (nat_eq base 0) (nat_eq base 1)
  where
    null : (t u : Bool) → t ≡ not u → (if u then Poison else Null) ≡ (if t then Null else Poison)
    null t true f = ap (λ z. if z then Null else Poison) (sym f)
    null t false f = ap (λ z. if z then Null else Poison) (sym f)

    place : y ≡ number_of 64 (pos x +ℤ way back n)
    place = e ∙ sym (sum_is back n x)

    inside : (t u : Bool) → t ≡ not u → (if u then Poison else Address (base - 2) y) ≡ (if t then Address (base - 2) (number_of 64 (pos x +ℤ way back n)) else Poison)
    inside t true f = ap (λ z. if z then Address (base - 2) (number_of 64 (pos x +ℤ way back n)) else Poison) (sym f)
    inside t false f = ap (Address (base - 2)) place ∙ ap (λ z. if z then Address (base - 2) (number_of 64 (pos x +ℤ way back n)) else Poison) (sym f)

    address : (inbounds : Bool) → (if inbounds && leaves_object (nat_le (2 ^ 64) n) back size x ((x + delta_of back n) % 2 ^ 64) then Poison else Address (base - 2) y) ≡ move_by inbounds size (way back n) (Address (base - 2) x)
    address true = inside (is_within size (pos x +ℤ way back n)) (leaves_object (nat_le (2 ^ 64) n) back size x ((x + delta_of back n) % 2 ^ 64)) (within_is back n x size ((x + delta_of back n) % 2 ^ 64) p q refl)
    address false = ap (Address (base - 2)) place

    by : (none one : Bool)
        → (if none || (if one then (inbounds && nat_le (2 ^ 64) n) || not (delta_of back n == 0) else inbounds && leaves_object (nat_le (2 ^ 64) n) back size x ((x + delta_of back n) % 2 ^ 64)) then Poison else (if none then Number y else (if one then Null else Address (base - 2) y)))
        ≡ move_by inbounds size (way back n) (if none then Number x else (if one then Null else Address (base - 2) x))
    by true one = refl
    by false true = null (is_no_move inbounds (way back n)) ((inbounds && nat_le (2 ^ 64) n) || not (delta_of back n == 0)) (stays_is inbounds back n)
    by false false = address inbounds

module _ (inbounds pf none : Bool) (w each xi base x size y : ℕ) where
  all_poison : (pf : Bool) → stands_for (pf || (true || none)) base y ≡ Poison
  all_poison true = refl
  all_poison false = refl

  -- the step of an index that is a number
  abbrev Goes : Type 0
  Goes = (pf : Bool) → nat_lt xi (2 ^ w) ≡ true → stands_for (pf || (false || none)) base y ≡ move_by inbounds size (added_by w xi each) (stands_for pf base x)

  number : is_width w ≡ true → Goes → (t : Bool) → nat_lt xi (2 ^ w) ≡ t → stands_for (pf || (not t || none)) base y
      ≡ (if is_width w && t then move_by inbounds size (added_by w xi each) (stands_for pf base x) else Poison)
  number width goes true f = goes pf f ∙ sym (ap (λ t. if t && true then move_by inbounds size (added_by w xi each) (stands_for pf base x) else Poison) width)
  number width goes false f = all_poison pf ∙ sym (ap (λ t. if t && false then move_by inbounds size (added_by w xi each) (stands_for pf base x) else Poison) width)

  known : (bi : ℕ) → is_width w ≡ true → Goes → (zero one : Bool) → stands_for (pf || (not (zero && nat_lt xi (2 ^ w)) || none)) base y
      ≡ signed_step inbounds size w each (if zero then Number xi else (if one then Null else Address (bi - 2) xi)) (stands_for pf base x)
  known bi width goes true one = number width goes (nat_lt xi (2 ^ w)) refl
  known bi width goes false true = all_poison pf
  known bi width goes false false = all_poison pf

  by_index : (bi : ℕ) → is_width w ≡ true → Goes → (pi : Bool) → stands_for (pf || ((pi || not (nat_eq bi 0 && nat_lt xi (2 ^ w))) || none)) base y ≡ signed_step inbounds size w each (stands_for pi bi xi) (stands_for pf base x)
  by_index bi width goes true = all_poison pf
  by_index bi width goes false = known bi width goes (nat_eq bi 0) (nat_eq bi 1)

pub step_is : (inbounds pi pf bad back over r : Bool) (w each bi xi base x size y n by : ℕ) → 1 ≤ w → w ≤ 64 → x < 2 ^ 64 → size < 2 ^ 64 → n ≡ xi % 2 ^ w
    → bad ≡ (pi || not (nat_eq bi 0 && nat_lt xi (2 ^ w))) → back ≡ is_back w n → over ≡ nat_le (2 ^ 64) (distance w n each) → by ≡ delta_of (is_back w n) (distance w n each)
    → y ≡ (x + by) % 2 ^ 64 → r ≡ (pf || (bad || stays_at inbounds back over by base x size))
    → stands_for r base y ≡ signed_step inbounds size w each (stands_for pi bi xi) (stands_for pf base x)
step_is inbounds pi pf bad back over r w each bi xi base x size y n by some most small room is bad_is back_is over_is by_is to poison =
    ap (λ t. stands_for t base y) (poison ∙ (λ i. pf || (bad_is i || stays_at inbounds (back_is i) (over_is i) (by_is i) base x size)))
    ∙ by_index inbounds pf (stays_at inbounds (is_back w n) (nat_le (2 ^ 64) (distance w n each)) (delta_of (is_back w n) (distance w n each)) base x size) w each xi base x size y bi width goes pi
  where
    width : is_width w ≡ true
    width = λ i. le-leb 1 w some i && le-leb w 64 most i

    place : y ≡ (x + delta_of (is_back w n) (distance w n each)) % 2 ^ 64
    place = to ∙ ap (λ k. (x + k) % 2 ^ 64) by_is

    goes : (pf : Bool) → nat_lt xi (2 ^ w) ≡ true
        → stands_for (pf || (false || stays_at inbounds (is_back w n) (nat_le (2 ^ 64) (distance w n each)) (delta_of (is_back w n) (distance w n each)) base x size)) base y
        ≡ move_by inbounds size (added_by w xi each) (stands_for pf base x)
    goes true f = refl
    goes false f =
        moved_is inbounds (is_back w n) (distance w n each) base x size y small room place
        ∙ ap (λ z. move_by inbounds size z (based base x)) (sym (added_is w n each) ∙ ap (λ k. added_by w k each) (is ∙ mod-eq_of_lt (ltb-true _ _ f)))

-- no index has a number of another width
pub no_width : (inbounds nuw : Bool) (size w each : ℕ) (i v : Value) → (1 ≤ w → w ≤ 64 → ⊥) → Poison ≡ step_of inbounds nuw size w each i v
no_width inbounds nuw size w each i v h = by ((inbounds && nuw) && wraps w each i v)
  where
    number : (n : ℕ) → (0 < w) ⊎ (w ≤ 0) → (64 < w) ⊎ (w ≤ 64) → signed_step inbounds size w each (Number n) v ≡ Poison
    number n (inr z) s = λ i. if (lt-leb 1 w (omega (arith, z)) i && nat_le w 64) && is_number w n then move_by inbounds size (added_by w n each) v else Poison
    number n (inl o) (inl far) = λ i. if (le-leb 1 w o i && lt-leb w 64 far i) && is_number w n then move_by inbounds size (added_by w n each) v else Poison
    number n (inl o) (inr near) = absurd (h o near)

    stays : (i : Value) → Poison ≡ signed_step inbounds size w each i v
    stays Null = refl
    stays (Address o x) = refl
    stays Poison = refl
    stays (Number n) = sym (number n (cases_lt 0 w) (cases_lt 64 w))

    by : (t : Bool) → Poison ≡ (if t then Poison else signed_step inbounds size w each i v)
    by true = refl
    by false = stays i

-- ---- the flags

below_zero : (w n : ℕ) → 1 ≤ w → bvslt w n 0 ≡ is_back w n
below_zero w n some = ap (λ z. int_lt (signed_of w n) z) (reading_low w 0 (pow_pos (w - 1))) ∙ by (nat_lt n (2 ^ (w - 1)))
  where
    by : (t : Bool) → int_lt (if t then pos n else negsuc (2 ^ w - 1 - n)) (pos 0) ≡ not t
    by true = le-ltb n 0 (omega arith)
    by false = refl

poison_anyway : (t : Bool) (m : Value) → m ≡ Poison → (if t then Poison else m) ≡ Poison
poison_anyway true m e = refl
poison_anyway false m e = e

pub or_poison : (a p : Bool) (base bits : ℕ) → stands_for (a || p) base bits ≡ (if a then Poison else stands_for p base bits)
or_poison true p base bits = refl
or_poison false p base bits = refl

-- the sign of an index tells whether the flags exclude it
pub flagged_is : (inbounds nuw pi : Bool) (size w each bi xi : ℕ) (v m : Value) → size < 2 ^ 64 → 1 ≤ w → w ≤ 64 → m ≡ signed_step inbounds size w each (stands_for pi bi xi) v
    → (if ((inbounds && nuw) && not (each == 0)) && is_back w (xi % 2 ^ w) then Poison else m) ≡ step_of inbounds nuw size w each (stands_for pi bi xi) v
flagged_is inbounds nuw pi size w each bi xi v m fits some most e = by pi (nat_eq bi 0) (nat_eq bi 1) e
  where
    test : Bool
    test = ((inbounds && nuw) && not (each == 0)) && is_back w (xi % 2 ^ w)

    width : is_width w ≡ true
    width = λ i. le-leb 1 w some i && le-leb w 64 most i

    no_index : (j : Value) → signed_step inbounds size w each j v ≡ Poison → step_of inbounds nuw size w each j v ≡ Poison
    no_index j none = poison_anyway ((inbounds && nuw) && wraps w each j v) (signed_step inbounds size w each j v) none

    grouped : (a b c : Bool) → ((a && b) && c) ≡ (a && (b && c))
    grouped true b c = refl
    grouped false b c = refl

    number : (t : Bool) → is_number w xi ≡ t → m ≡ signed_step inbounds size w each (Number xi) v → (if test then Poison else m) ≡ step_of inbounds nuw size w each (Number xi) v
    number false f e =
        let none : signed_step inbounds size w each (Number xi) v ≡ Poison = λ i. if width i && f i then move_by inbounds size (added_by w xi each) v else Poison in
        poison_anyway test m (e ∙ none) ∙ sym (no_index (Number xi) none)
    number true f e =
        let same : xi % 2 ^ w ≡ xi = mod-eq_of_lt (ltb-true xi (2 ^ w) f) in
        let told : test ≡ ((inbounds && nuw) && steps_back w each (Number xi)) =
        grouped (inbounds && nuw) (not (each == 0)) (is_back w (xi % 2 ^ w))
        ∙ (λ i. (inbounds && nuw) && (not (each == 0) && (ap (is_back w) same ∙ sym (below_zero w xi some)) i))
        ∙ sym (λ i. (inbounds && nuw) && ((width i && f i) && (not (each == 0) && bvslt w xi 0))) in
        (λ i. if told i then Poison else e i) ∙ sym (by_sign inbounds nuw size w each (Number xi) v fits)

    by : (p first second : Bool) → m ≡ signed_step inbounds size w each (if p then Poison else (if first then Number xi else (if second then Null else Address (bi - 2) xi))) v
        → (if test then Poison else m) ≡ step_of inbounds nuw size w each (if p then Poison else (if first then Number xi else (if second then Null else Address (bi - 2) xi))) v
    by true first second e = poison_anyway test m e ∙ sym (no_index Poison refl)
    by false true second e = number (is_number w xi) refl e
    by false false true e = poison_anyway test m e ∙ sym (no_index Null refl)
    by false false false e = poison_anyway test m e ∙ sym (no_index (Address (bi - 2) xi) refl)
