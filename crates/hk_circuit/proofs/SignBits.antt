-- Signed readings by the sign, extensions of words, and shifts with copies of the sign.
use Rattle.std.proofs.Common.{◌≡◌, ℕ, ◌+◌, ◌-◌, ◌*◌, ◌/◌, ◌%◌, ◌<◌, ◌≤◌, ◌^◌, Bool, true, false, if◌then◌else◌, List, length, take, get_or, ℤ, pos, negsuc, sym, ◌∙◌, ap, arith, pow_mono}
use Rattle.std.proofs.lemmas.Nat.{pow_pos, pow-add}
use Rattle.std.proofs.lemmas.List.{take_all}
use Rattle.std.proofs.Math.Nat.{mod-eq_of_lt, div-le_self}
use Rattle.std.specs.Int.{int_div_euclid}
use Rattle.hk_num.specs.Numbers.{signed_of, number_of, sign_extend, bvashr}
use Rattle.hk_num.proofs.Readings.{reading_low, reading_high}
use Rattle.hk_num.proofs.Words.{one_less}
use Rattle.hk_cnf.specs.Circuit.{Circuit, gate_value}
use Rattle.hk_circuit.specs.Words.{bit, gate_number}
use Rattle.hk_circuit.proofs.WordNumbers.{number-more, front-below}

-- the signed reading of a number with this sign
abbrev pub read_by : Bool → ℕ → ℕ → ℤ
read_by h w a = if h then negsuc (2 ^ w - 1 - a) else pos a

-- the number has this sign
abbrev pub HasSign : Bool → ℕ → ℕ → Type 0
HasSign true w a = 2 ^ (w - 1) ≤ a
HasSign false w a = a < 2 ^ (w - 1)

pub reading-is : (h : Bool) (w a : ℕ) → HasSign h w a → signed_of w a ≡ read_by h w a
reading-is true w a s = reading_high w a s
reading-is false w a s = reading_low w a s

sign-by : (w a x : ℕ) (h : Bool) → a ≡ x + 2 ^ (w - 1) * bit h → x < 2 ^ (w - 1) → HasSign h w a
sign-by w a x true e k = omega (arith, e)
sign-by w a x false e k = omega (arith, e, k)

pub sign-is : (c : Circuit) (ls : List ℤ) (s : ℤ) (v : ℕ → Bool) → 1 ≤ length ls → s ≡ get_or ls (length ls - 1) s → HasSign (gate_value c s v) (length ls) (gate_number c ls v)
sign-is c ls s v h e =
    let w : ℕ = length ls in
    let x : ℕ = gate_number c (take (w - 1) ls) v in
    let whole : gate_number c ls v ≡ x + 2 ^ (w - 1) * bit (gate_value c (get_or ls (w - 1) s) v) =
    ap (λ k. gate_number c k v) (sym (take_all (w - 1 + 1) ls (omega (arith, h)))) ∙ number-more c ls (w - 1) s v (omega (arith, h)) in
    sign-by w (gate_number c ls v) x (gate_value c s v) (whole ∙ ap (λ l. x + 2 ^ (w - 1) * bit (gate_value c l v)) (sym e)) (front-below c ls (w - 1) v (omega arith))

pub sign-reading : (c : Circuit) (ls : List ℤ) (s : ℤ) (v : ℕ → Bool) → 1 ≤ length ls → s ≡ get_or ls (length ls - 1) s →
    signed_of (length ls) (gate_number c ls v) ≡ read_by (gate_value c s v) (length ls) (gate_number c ls v)
sign-reading c ls s v h e = reading-is (gate_value c s v) (length ls) (gate_number c ls v) (sign-is c ls s v h e)

-- copies of the sign above a number
pub extended : (w to a : ℕ) (h : Bool) → w ≤ to → a < 2 ^ w → signed_of w a ≡ read_by h w a → (if h then 2 ^ (to - w) - 1 else 0) * 2 ^ w + a ≡ sign_extend w to a
extended w to a true l b e =
    let wider : 2 ^ w ≤ 2 ^ to = pow_mono l in
    let small : (2 ^ w - 1 - a) % 2 ^ to ≡ 2 ^ w - 1 - a = mod-eq_of_lt (omega (arith, b, wider)) in
    let power : 2 ^ (to - w) * 2 ^ w ≡ 2 ^ to = sym (pow-add 2 (to - w) w) ∙ ap (λ n. 2 ^ n) (sum l) in
    let less : (2 ^ (to - w) - 1) * 2 ^ w + 2 ^ w ≡ 2 ^ (to - w) * 2 ^ w = one_less (2 ^ (to - w)) (2 ^ w) (pow_pos (to - w)) in
    let value : (2 ^ (to - w) - 1) * 2 ^ w + a ≡ 2 ^ to - 1 - (2 ^ w - 1 - a) = omega (arith, power, less, b) in
    value ∙ (ap (λ n. 2 ^ to - 1 - n) (sym small) ∙ ap (number_of to) (sym e))
  where
    sum : w ≤ to → to - w + w ≡ to
    sum k = omega (arith, k)
extended w to a false l b e =
    let wider : 2 ^ w ≤ 2 ^ to = pow_mono l in
    plain a (2 ^ w) ∙ (sym (mod-eq_of_lt (omega (arith, b, wider))) ∙ ap (number_of to) (sym e))
  where
    plain : (a p : ℕ) → 0 * p + a ≡ a
    plain a p = omega arith

-- a word with this sign turned, moved down and turned back
abbrev pub turned_by : Bool → ℕ → ℕ → ℕ
turned_by h w a = if h then 2 ^ w - 1 - a else a

pub shifted : (w a n : ℕ) (h : Bool) → a < 2 ^ w → signed_of w a ≡ read_by h w a → turned_by h w (turned_by h w a / 2 ^ n) ≡ bvashr w a n
shifted w a n true b e =
    let rest : (2 ^ w - 1 - a) / 2 ^ n < 2 ^ w = omega (arith, div-le_self (2 ^ w - 1 - a) (2 ^ n), b) in
    ap (λ m. 2 ^ w - 1 - m) (sym (mod-eq_of_lt rest)) ∙ ap (λ z. number_of w (int_div_euclid z (pos (2 ^ n)))) (sym e)
shifted w a n false b e =
    let rest : a / 2 ^ n < 2 ^ w = omega (arith, div-le_self a (2 ^ n), b) in
    sym (mod-eq_of_lt rest) ∙ ap (λ z. number_of w (int_div_euclid z (pos (2 ^ n)))) (sym e)
