-- Decimal numbers are read back.
use Rattle.std.proofs.Common.{◌≡◌, ℕ, zero, suc, ◌^◌, ◌<◌, ◌≤◌, true, false, ◌&&◌, ◌||◌, eqb, leb, List, [], ◌∷◌, length, get_or, Some, None, refl, ◌∙◌, ap, arith}
use Rattle.std.proofs.lemmas.Bool.{cond-true, and_parts, and_from, or_from, ne_eqb, le-leb, leb-true, not_from_false}
use Rattle.std.proofs.lemmas.Str.Parse.{IsNumeralModel, numerals_by_value, tells_all_ascii_digits}
use Rattle.std.proofs.lemmas.Fmt.{digits_decimal, digits_value-decimal, decimal_nonempty, decimal_digit, first_decimal}
use Rattle.std.specs.Char.{is_ascii_digit}
use Rattle.std.specs.List.{list_all}
use Rattle.std.specs.Str.{all_ascii_digits}
use Rattle.std.specs.Str.Parse.{digits_value}
use Rattle.std.specs.Fmt.{decimal}
use Rattle.hk_cnf.specs.Text.{is_blank, is_numeral, natural_of}
use Rattle.hk_cert_lines.specs.Words.{is_decimal, leads}
use Rattle.hk_cert_law.proofs.Lines.{all_weaker}
use Rattle.hk_cert_law.proofs.Words.{is_black, is_token}

numerals : IsNumeralModel (λ ds. all_ascii_digits ds ≡ true) (digits_value 10)
numerals = numerals_by_value (λ ds. all_ascii_digits ds ≡ true) tells_all_ascii_digits

listed : (ds : List ℕ) → all_ascii_digits ds ≡ true → list_all is_ascii_digit ds ≡ true
listed [] h = refl
listed (b ∷ ds) h =
    let parts = and_parts (is_ascii_digit b) (all_ascii_digits ds) h in
    and_from (is_ascii_digit b) (list_all is_ascii_digit ds) parts.0 (listed ds parts.1)

-- the bytes of a number are digits
pub digits : (n : ℕ) → n < 2 ^ 64 → list_all is_ascii_digit (decimal n) ≡ true
digits n h = listed (decimal n) (digits_decimal numerals n h)

pub digit_black : (b : ℕ) → is_ascii_digit b ≡ true → is_black b ≡ true
digit_black b h =
    let parts = and_parts (leb 48 b) (leb b 57) h in
    let low : 48 ≤ b = leb-true 48 b parts.0 in
    not_from_false (is_blank false b || eqb b 10) (or_from (is_blank false b) (eqb b 10) (or_from (eqb b 32) (eqb b 9 || false) (ne_eqb b 32 (λ e. omega (arith, low, e))) (or_from (eqb b 9) false (ne_eqb b 9 (λ e. omega (arith, low, e))) refl)) (ne_eqb b 10 (λ e. omega (arith, low, e))))

token_digits : (ds : List ℕ) → 0 < length ds → list_all is_ascii_digit ds ≡ true → is_token ds ≡ true
token_digits [] some h = absurd (omega (arith, some))
token_digits (b ∷ ds) some h = all_weaker is_ascii_digit is_black digit_black (b ∷ ds) h

pub number_token : (n : ℕ) → n < 2 ^ 64 → is_token (decimal n) ≡ true
number_token n h = token_digits (decimal n) (decimal_nonempty n h) (digits n h)

-- no zero leads
leading : (b : ℕ) (ds : List ℕ) → 48 < b → leads b ds ≡ true
leading b [] h = refl
leading b (c ∷ ds) h = not_from_false (eqb b 48) (ne_eqb b 48 (λ e. omega (arith, h, e)))

decimal_digits : (ds : List ℕ) → 0 < length ds → 48 < get_or ds 0 0 → list_all is_ascii_digit ds ≡ true → is_decimal ds ≡ true
decimal_digits [] some first h = absurd (omega (arith, some))
decimal_digits (b ∷ ds) some first h = and_from (list_all is_ascii_digit (b ∷ ds)) (leads b ds) h (leading b ds first)

pub number_decimal : (n : ℕ) → n < 2 ^ 64 → is_decimal (decimal n) ≡ true
number_decimal zero h = ap is_decimal (decimal_digit 0 (omega arith))
number_decimal (suc n) h = decimal_digits (decimal (suc n)) (decimal_nonempty (suc n) h) (first_decimal (suc n) (omega arith) h) (digits (suc n) h)

numeral : (ds : List ℕ) → 0 < length ds → all_ascii_digits ds ≡ true → is_numeral ds ≡ true
numeral [] some h = absurd (omega (arith, some))
numeral (b ∷ ds) some h = h

-- the number is read
pub number_read : (most n : ℕ) → n ≤ most → n < 2 ^ 64 → natural_of most (decimal n) ≡ Some n
number_read most n le h =
    let v : digits_value 10 (decimal n) ≡ n = digits_value-decimal numerals n h in
    let t : is_numeral (decimal n) ≡ true = numeral (decimal n) (decimal_nonempty n h) (digits_decimal numerals n h) in
    cond-true (is_numeral (decimal n) && leb (digits_value 10 (decimal n)) most) (Some (digits_value 10 (decimal n))) None
    (and_from (is_numeral (decimal n)) (leb (digits_value 10 (decimal n)) most) t (le-leb (digits_value 10 (decimal n)) most (omega (arith, v, le))))
    ∙ ap Some v
