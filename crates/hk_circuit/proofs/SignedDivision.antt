-- Division of signed readings by that of their magnitudes.
use Rattle.std.proofs.Common.{◌≡◌, ℕ, zero, suc, ◌+◌, ◌-◌, ◌*◌, ◌/◌, ◌%◌, ◌<◌, ◌≤◌, ◌^◌, Bool, true, false, nat_eq, nat_lt, if◌then◌else◌, pos, neg_ℤ, int_div, int_rem, refl, sym, ◌∙◌, ap, arith}
use Rattle.std.proofs.lemmas.Bool.{ne_eqb, lt-ltb, le-ltb}
use Rattle.std.proofs.lemmas.Nat.{mod-mul-add, pow_pos}
use Rattle.std.proofs.Math.Nat.{mod-eq_of_lt, mod-le, div-le_self}
use Rattle.hk_num.specs.Numbers.{signed_of, number_of}
use Rattle.hk_num.proofs.Readings.{halves}
use Rattle.hk_term.specs.Operations.{udiv_value, urem_value, sdiv_value, srem_value}
use Rattle.hk_circuit.specs.Words.{differ, negated_by}
use Rattle.hk_circuit.proofs.SignBits.{HasSign, reading-is}

some : (n : ℕ) → 0 < n → nat_eq n 0 ≡ false
some n h = ne_eqb n 0 (λ e. absurd (omega (arith, e, h)))

-- values at a divisor other than 0
udiv-by : (w a b : ℕ) → 0 < b → udiv_value w a b ≡ a / b
udiv-by w a b h = ap (λ t. if t then 2 ^ w - 1 else a / b) (some b h)

urem-by : (w a b : ℕ) → 0 < b → urem_value w a b ≡ a % b
urem-by w a b h = ap (λ t. if t then a else a % b) (some b h)

sdiv-by : (w a b : ℕ) → 0 < b → sdiv_value w a b ≡ number_of w (int_div (signed_of w a) (signed_of w b))
sdiv-by w a b h = ap (λ t. if t then (if nat_lt a (2 ^ (w - 1)) then 2 ^ w - 1 else 1) else number_of w (int_div (signed_of w a) (signed_of w b))) (some b h)

srem-by : (w a b : ℕ) → 0 < b → srem_value w a b ≡ number_of w (int_rem (signed_of w a) (signed_of w b))
srem-by w a b h = ap (λ t. if t then a else number_of w (int_rem (signed_of w a) (signed_of w b))) (some b h)

-- the number of a magnitude with a sign
number-negative : (w q : ℕ) → q < 2 ^ w → number_of w (neg_ℤ (pos q)) ≡ (2 ^ w - q) % 2 ^ w
number-negative w zero h =
    let whole : 2 ^ w - 0 ≡ 1 * 2 ^ w + 0 = omega arith in
    mod-eq_of_lt h ∙ sym (ap (λ n. n % 2 ^ w) whole ∙ mod-mul-add 1 (2 ^ w) 0 h)
number-negative w (suc k) h =
    let same : k % 2 ^ w ≡ k = mod-eq_of_lt (omega (arith, h)) in
    let rest : (2 ^ w - suc k) % 2 ^ w ≡ 2 ^ w - suc k = mod-eq_of_lt (omega (arith, h)) in
    omega (arith, same, rest)

-- the magnitude of a negative reading
magnitude : (w a : ℕ) → 1 ≤ w → a < 2 ^ w → 2 ^ (w - 1) ≤ a → (2 ^ w - a) % 2 ^ w ≡ suc (2 ^ w - 1 - a)
magnitude w a n h s =
    let below : 2 ^ w - a < 2 ^ w = omega (arith, h, s, pow_pos (w - 1)) in
    mod-eq_of_lt below ∙ omega (arith, h)

quotient-below : (w m n : ℕ) → m ≤ 2 ^ w - 1 → m / n < 2 ^ w
quotient-below w m n h = omega (arith, h, div-le_self m n, pow_pos w)

remainder-below : (w m n : ℕ) → m ≤ 2 ^ w - 1 → m % n < 2 ^ w
remainder-below w m n h = omega (arith, h, mod-le m n, pow_pos w)

high-below : (w a : ℕ) → 1 ≤ w → a < 2 ^ w → 2 ^ (w - 1) ≤ a → suc (2 ^ w - 1 - a) ≤ 2 ^ w - 1
high-below w a n h s = omega (arith, h, s, pow_pos (w - 1))

-- quotients of numbers with these signs, at a divisor other than 0
quotient-by : (f g : Bool) (w a b : ℕ) → 1 ≤ w → a < 2 ^ w → b < 2 ^ w → HasSign f w a → HasSign g w b → 0 < b →
    negated_by (differ f g) w (udiv_value w (negated_by f w a) (negated_by g w b)) ≡ number_of w (int_div (signed_of w a) (signed_of w b))
quotient-by true true w a b n ha hb sa sb p =
    let k : ℕ = 2 ^ w - 1 - a in let l : ℕ = 2 ^ w - 1 - b in
    (λ j. udiv_value w (magnitude w a n ha sa j) (magnitude w b n hb sb j))
    ∙ (udiv-by w (suc k) (suc l) (omega arith)
    ∙ (sym (mod-eq_of_lt (quotient-below w (suc k) (suc l) (high-below w a n ha sa)))
    ∙ (λ j. number_of w (int_div (sym (reading-is true w a sa) j) (sym (reading-is true w b sb) j)))))
quotient-by true false w a b n ha hb sa sb p =
    let k : ℕ = 2 ^ w - 1 - a in
    (λ j. (2 ^ w - udiv_value w (magnitude w a n ha sa j) b) % 2 ^ w)
    ∙ (ap (λ q. (2 ^ w - q) % 2 ^ w) (udiv-by w (suc k) b p)
    ∙ (sym (number-negative w (suc k / b) (quotient-below w (suc k) b (high-below w a n ha sa)))
    ∙ (λ j. number_of w (int_div (sym (reading-is true w a sa) j) (sym (reading-is false w b sb) j)))))
quotient-by false true w a b n ha hb sa sb p =
    let l : ℕ = 2 ^ w - 1 - b in
    (λ j. (2 ^ w - udiv_value w a (magnitude w b n hb sb j)) % 2 ^ w)
    ∙ (ap (λ q. (2 ^ w - q) % 2 ^ w) (udiv-by w a (suc l) (omega arith))
    ∙ (sym (number-negative w (a / suc l) (quotient-below w a (suc l) (omega (arith, ha))))
    ∙ (λ j. number_of w (int_div (sym (reading-is false w a sa) j) (sym (reading-is true w b sb) j)))))
quotient-by false false w a b n ha hb sa sb p =
    udiv-by w a b p
    ∙ (sym (mod-eq_of_lt (quotient-below w a b (omega (arith, ha))))
    ∙ (λ j. number_of w (int_div (sym (reading-is false w a sa) j) (sym (reading-is false w b sb) j))))

remainder-by : (f g : Bool) (w a b : ℕ) → 1 ≤ w → a < 2 ^ w → b < 2 ^ w → HasSign f w a → HasSign g w b → 0 < b →
    negated_by f w (urem_value w (negated_by f w a) (negated_by g w b)) ≡ number_of w (int_rem (signed_of w a) (signed_of w b))
remainder-by true true w a b n ha hb sa sb p =
    let k : ℕ = 2 ^ w - 1 - a in let l : ℕ = 2 ^ w - 1 - b in
    (λ j. (2 ^ w - urem_value w (magnitude w a n ha sa j) (magnitude w b n hb sb j)) % 2 ^ w)
    ∙ (ap (λ q. (2 ^ w - q) % 2 ^ w) (urem-by w (suc k) (suc l) (omega arith))
    ∙ (sym (number-negative w (suc k % suc l) (remainder-below w (suc k) (suc l) (high-below w a n ha sa)))
    ∙ (λ j. number_of w (int_rem (sym (reading-is true w a sa) j) (sym (reading-is true w b sb) j)))))
remainder-by true false w a b n ha hb sa sb p =
    let k : ℕ = 2 ^ w - 1 - a in
    (λ j. (2 ^ w - urem_value w (magnitude w a n ha sa j) b) % 2 ^ w)
    ∙ (ap (λ q. (2 ^ w - q) % 2 ^ w) (urem-by w (suc k) b p)
    ∙ (sym (number-negative w (suc k % b) (remainder-below w (suc k) b (high-below w a n ha sa)))
    ∙ (λ j. number_of w (int_rem (sym (reading-is true w a sa) j) (sym (reading-is false w b sb) j)))))
remainder-by false true w a b n ha hb sa sb p =
    let l : ℕ = 2 ^ w - 1 - b in
    (λ j. urem_value w a (magnitude w b n hb sb j))
    ∙ (urem-by w a (suc l) (omega arith)
    ∙ (sym (mod-eq_of_lt (remainder-below w a (suc l) (omega (arith, ha))))
    ∙ (λ j. number_of w (int_rem (sym (reading-is false w a sa) j) (sym (reading-is true w b sb) j)))))
remainder-by false false w a b n ha hb sa sb p =
    urem-by w a b p
    ∙ (sym (mod-eq_of_lt (remainder-below w a b (omega (arith, ha))))
    ∙ (λ j. number_of w (int_rem (sym (reading-is false w a sa) j) (sym (reading-is false w b sb) j))))

-- and by 0
quotient-by-zero : (f : Bool) (w a : ℕ) → 1 ≤ w → a < 2 ^ w → HasSign f w a → negated_by f w (2 ^ w - 1) ≡ (if nat_lt a (2 ^ (w - 1)) then 2 ^ w - 1 else 1)
quotient-by-zero true w a n ha sa =
    let one : 2 ^ w - (2 ^ w - 1) ≡ 1 = omega (arith, pow_pos w) in
    let below : 1 < 2 ^ w = omega (arith, halves w n, pow_pos (w - 1)) in
    ap (λ m. m % 2 ^ w) one ∙ (mod-eq_of_lt below ∙ ap (λ t. if t then 2 ^ w - 1 else 1) (sym (le-ltb a (2 ^ (w - 1)) sa)))
quotient-by-zero false w a n ha sa = ap (λ t. if t then 2 ^ w - 1 else 1) (sym (lt-ltb a (2 ^ (w - 1)) sa))

remainder-by-zero : (f : Bool) (w a : ℕ) → 1 ≤ w → a < 2 ^ w → HasSign f w a → negated_by f w (negated_by f w a) ≡ a
remainder-by-zero true w a n ha sa =
    ap (λ m. (2 ^ w - m) % 2 ^ w) (magnitude w a n ha sa) ∙ (ap (λ m. m % 2 ^ w) (back ha) ∙ mod-eq_of_lt ha)
  where
    back : a < 2 ^ w → 2 ^ w - suc (2 ^ w - 1 - a) ≡ a
    back h = omega (arith, h)
remainder-by-zero false w a n ha sa = refl

positive : (g : Bool) (w : ℕ) → HasSign g w 0 → g ≡ false
positive true w s = absurd (omega (arith, s, pow_pos (w - 1)))
positive false w s = refl

pub signed-quotient : (f g : Bool) (w a b : ℕ) → 1 ≤ w → a < 2 ^ w → b < 2 ^ w → HasSign f w a → HasSign g w b →
    negated_by (differ f g) w (udiv_value w (negated_by f w a) (negated_by g w b)) ≡ sdiv_value w a b
signed-quotient f g w a zero n ha hb sa sb =
    (λ j. negated_by (differ f (positive g w sb j)) w (udiv_value w (negated_by f w a) (negated_by (positive g w sb j) w 0)))
    ∙ (ap (λ t. negated_by t w (2 ^ w - 1)) (same f) ∙ quotient-by-zero f w a n ha sa)
  where
    same : (x : Bool) → differ x false ≡ x
    same true = refl
    same false = refl
signed-quotient f g w a (suc l) n ha hb sa sb = quotient-by f g w a (suc l) n ha hb sa sb (omega arith) ∙ sym (sdiv-by w a (suc l) (omega arith))

pub signed-remainder : (f g : Bool) (w a b : ℕ) → 1 ≤ w → a < 2 ^ w → b < 2 ^ w → HasSign f w a → HasSign g w b →
    negated_by f w (urem_value w (negated_by f w a) (negated_by g w b)) ≡ srem_value w a b
signed-remainder f g w a zero n ha hb sa sb =
    (λ j. negated_by f w (urem_value w (negated_by f w a) (negated_by (positive g w sb j) w 0))) ∙ remainder-by-zero f w a n ha sa
signed-remainder f g w a (suc l) n ha hb sa sb = remainder-by f g w a (suc l) n ha hb sa sb (omega arith) ∙ sym (srem-by w a (suc l) (omega arith))
