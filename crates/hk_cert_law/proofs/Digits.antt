-- Bytes in hexadecimal are read back.
use Rattle.std.proofs.Common.{◌≡◌, ℕ, ◌+◌, ◌*◌, ◌/◌, ◌%◌, ◌<◌, true, not, ◌&&◌, eqb, List, [], ◌∷◌, ◌++◌, length, map, get_or, refl, sym, ◌∙◌, ap, arith}
use Rattle.std.proofs.lemmas.Bool.{and_from, and_parts, agree_below_at, eqb-true, eq-eqb, ne_eqb, not_from_false}
use Rattle.std.proofs.lemmas.List.{append_assoc, length-append, get_or-append-add}
use Rattle.std.proofs.lemmas.List.Elements.{All-head, All-tail}
use Rattle.std.specs.Prelude.{codes, slice_index}
use Rattle.std.specs.List.{All, list_all, range_with_len}
use Rattle.hk_rows.specs.Texts.{hex_byte, hex_text}
use Rattle.hk_cert_lines.specs.Blocks.{is_hex_digit, is_hex, hex_value, hex_byte_at, hex_bytes}
use Rattle.hk_cert_law.proofs.Lines.{is_inner, is_one_line, all_weaker}

-- a byte
abbrev pub IsByte : ℕ → Type 0
IsByte b = b < 256

abbrev digit : ℕ → ℕ
digit d = slice_index (codes "0123456789abcdef") d

-- ---- one digit

digit_value : (d : ℕ) → d < 16 → hex_value (digit d) ≡ d
digit_value d low = eqb-true (hex_value (digit d)) d (agree_below_at (λ d. eqb (hex_value (digit d)) d) (λ d. true) 16 d refl low)

digit_hex : (d : ℕ) → d < 16 → is_hex_digit (digit d) ≡ true
digit_hex d low = agree_below_at (λ d. is_hex_digit (digit d)) (λ d. true) 16 d refl low

-- only 0 has the digit 0
digit_zero : (d : ℕ) → d < 16 → eqb (digit d) 48 ≡ eqb d 0
digit_zero d low = agree_below_at (λ d. eqb (digit d) 48) (λ d. eqb d 0) 16 d refl low

high : (b : ℕ) → IsByte b → b / 16 < 16
high b h = omega arith

low_digit : (b : ℕ) → b % 16 < 16
low_digit b = omega arith

-- ---- the digits of bytes

pub hex_long : (bytes : List ℕ) → length (hex_text bytes) ≡ 2 * length bytes
hex_long [] = refl
hex_long (b ∷ bytes) = let e = hex_long bytes in omega (arith, e)

pub hex_all : (bytes : List ℕ) → All IsByte bytes → list_all is_hex_digit (hex_text bytes) ≡ true
hex_all [] all = refl
hex_all (b ∷ bytes) all =
    let h = All-head IsByte b bytes all in
    and_from (is_hex_digit (digit (b / 16))) (is_hex_digit (digit (b % 16)) && list_all is_hex_digit (hex_text bytes)) (digit_hex (b / 16) (high b h))
    (and_from (is_hex_digit (digit (b % 16))) (list_all is_hex_digit (hex_text bytes)) (digit_hex (b % 16) (low_digit b)) (hex_all bytes (All-tail IsByte b bytes all)))

hex_inner_digit : (b : ℕ) → is_hex_digit b ≡ true → is_inner b ≡ true
hex_inner_digit b h = not_from_false (eqb b 10) (ne_eqb b 10 (λ e. let f : is_hex_digit b ≡ is_hex_digit 10 = ap is_hex_digit e in absurd (cc (f, h))))

pub hex_inner : (bytes : List ℕ) → All IsByte bytes → is_one_line (hex_text bytes) ≡ true
hex_inner bytes all = all_weaker is_hex_digit is_inner hex_inner_digit (hex_text bytes) (hex_all bytes all)

-- bytes of which one is not 0 have a digit that is not
zero_byte : (b : ℕ) → eqb (b / 16) 0 ≡ true → eqb (b % 16) 0 ≡ true → b ≡ 0
zero_byte b p q = let e = eqb-true (b / 16) 0 p in let f = eqb-true (b % 16) 0 q in omega (arith, e, f)

pub hex_zeros : (bytes : List ℕ) → All IsByte bytes → list_all (λ d. eqb d 48) (hex_text bytes) ≡ true → list_all (λ b. eqb b 0) bytes ≡ true
hex_zeros [] all h = refl
hex_zeros (b ∷ bytes) all h =
    let byte = All-head IsByte b bytes all in
    let first = and_parts (eqb (digit (b / 16)) 48) (eqb (digit (b % 16)) 48 && list_all (λ d. eqb d 48) (hex_text bytes)) h in
    let second = and_parts (eqb (digit (b % 16)) 48) (list_all (λ d. eqb d 48) (hex_text bytes)) first.1 in
    let is : b ≡ 0 = zero_byte b (sym (digit_zero (b / 16) (high b byte)) ∙ first.0) (sym (digit_zero (b % 16) (low_digit b)) ∙ second.0) in
    and_from (eqb b 0) (list_all (λ b. eqb b 0) bytes) (eq-eqb b 0 is) (hex_zeros bytes (All-tail IsByte b bytes all) second.1)

-- ---- bytes of digits

-- the digits of a byte behind these
byte_at : (before : List ℕ) (k b : ℕ) (rest : List ℕ) → length before ≡ 2 * k → IsByte b → hex_byte_at (before ++ (hex_byte b ++ rest)) k ≡ b
byte_at before k b rest long byte =
    let digits = hex_byte b ++ rest in
    let first : get_or (before ++ digits) (2 * k) 0 ≡ digit (b / 16) =
    ap (λ i. get_or (before ++ digits) i 0) (omega (arith, long)) ∙ get_or-append-add before digits 0 0 in
    let second : get_or (before ++ digits) (2 * k + 1) 0 ≡ digit (b % 16) =
    ap (λ i. get_or (before ++ digits) i 0) (omega (arith, long)) ∙ get_or-append-add before digits 1 0 in
    let whole : 16 * (b / 16) + b % 16 ≡ b = omega arith in
    ap (λ d. 16 * hex_value d + hex_value (get_or (before ++ digits) (2 * k + 1) 0)) first
    ∙ ap (λ d. 16 * hex_value (digit (b / 16)) + hex_value d) second
    ∙ ap (λ v. 16 * v + hex_value (digit (b % 16))) (digit_value (b / 16) (high b byte))
    ∙ ap (λ v. 16 * (b / 16) + v) (digit_value (b % 16) (low_digit b))
    ∙ whole

bytes_at : (bytes before : List ℕ) (k : ℕ) → length before ≡ 2 * k → All IsByte bytes → map (hex_byte_at (before ++ hex_text bytes)) (range_with_len k (length bytes)) ≡ bytes
bytes_at [] before k long all = refl
bytes_at (b ∷ bytes) before k long all =
    let first = byte_at before k b (hex_text bytes) long (All-head IsByte b bytes all) in
    let shape : before ++ hex_text (b ∷ bytes) ≡ (before ++ hex_byte b) ++ hex_text bytes = sym (append_assoc before (hex_byte b) (hex_text bytes)) in
    let longer : length (before ++ hex_byte b) ≡ 2 * (k + 1) = omega (arith, long, length-append before (hex_byte b)) in
    ap (λ x. x ∷ map (hex_byte_at (before ++ hex_text (b ∷ bytes))) (range_with_len (k + 1) (length bytes))) first
    ∙ ap (λ t. b ∷ map (hex_byte_at t) (range_with_len (k + 1) (length bytes))) shape
    ∙ ap (λ l. b ∷ l) (bytes_at bytes (before ++ hex_byte b) (k + 1) longer (All-tail IsByte b bytes all))

half : (n : ℕ) → 2 * n / 2 ≡ n
half n = omega arith

pub hex_read : (bytes : List ℕ) → All IsByte bytes → hex_bytes (hex_text bytes) ≡ bytes
hex_read bytes all =
    ap (λ n. map (hex_byte_at (hex_text bytes)) (range_with_len 0 (n / 2))) (hex_long bytes)
    ∙ ap (λ n. map (hex_byte_at (hex_text bytes)) (range_with_len 0 n)) (half (length bytes))
    ∙ bytes_at bytes [] 0 refl all

-- digits of at least one byte
even : (n : ℕ) → 2 * n % 2 ≡ 0
even n = omega arith

pub hex_is : (bytes : List ℕ) → All IsByte bytes → 0 < length bytes → is_hex (hex_text bytes) ≡ true
hex_is bytes all some =
    let long = hex_long bytes in
    and_from (list_all is_hex_digit (hex_text bytes)) (not (eqb (length (hex_text bytes)) 0) && eqb (length (hex_text bytes) % 2) 0) (hex_all bytes all)
    (and_from (not (eqb (length (hex_text bytes)) 0)) (eqb (length (hex_text bytes) % 2) 0)
    (not_from_false (eqb (length (hex_text bytes)) 0) (ne_eqb (length (hex_text bytes)) 0 (λ e. omega (arith, e, long, some))))
    (eq-eqb (length (hex_text bytes) % 2) 0 (ap (λ n. n % 2) long ∙ even (length bytes))))
