-- Names and numbers of a specification, by their texts.
use Rattle.std.specs.Prelude.{ℕ, ◌+◌, ◌-◌, ◌*◌, ◌^◌, Bool, true, false, not, ◌&&◌, ◌||◌, if◌then◌else◌, ◌==◌, nat_lt, nat_le, Option, Some, None, List, [], ◌∷◌, drop, codes, bytes_eq}
use Rattle.std.specs.Char.{is_ascii_digit, is_ascii_alphabetic}

abbrev pub Text : Type 0
Text = List ℕ

abbrev pub is_keyword : Text → Bool
is_keyword text = bytes_eq text (codes "class") || bytes_eq text (codes "def") || bytes_eq text (codes "return") || bytes_eq text (codes "True") || bytes_eq text (codes "False")

abbrev pub begins_name : Text → Bool
begins_name [] = false
begins_name (b ∷ rest) = is_ascii_alphabetic b || (b == 95)

-- a word that begins with a letter or `_`, and is no keyword; what the token is made of is the lexer's
abbrev pub is_name : Text → Bool
is_name text = begins_name text && not (is_keyword text)

-- the value of a digit; 16 is the digit of no base
abbrev pub digit : ℕ → ℕ
digit b = if is_ascii_digit b then b - 48 else (if nat_le 97 b && nat_le b 102 then b - 87 else (if nat_le 65 b && nat_le b 70 then b - 55 else 16))

abbrev pub digits_behind : ℕ → ℕ → List ℕ → Option ℕ
digits_behind base n [] = Some n
digits_behind base n (b ∷ rest) = if nat_lt (digit b) base then digits_behind base (n * base + digit b) rest else None

-- one digit or more
abbrev pub digits_of : ℕ → List ℕ → Option ℕ
digits_of base [] = None
digits_of base (b ∷ rest) = digits_behind base 0 (b ∷ rest)

abbrev pub begins_with : List ℕ → Text → Bool
begins_with [] text = true
begins_with (b ∷ front) [] = false
begins_with (b ∷ front) (c ∷ text) = (b == c) && begins_with front text

-- a number of 64 bits
abbrev pub within : Option ℕ → Option ℕ
within None = None
within (Some n) = if nat_lt n (2 ^ 64) then Some n else None

-- decimal without a leading zero but in `0` itself
abbrev pub decimal_of : Text → Option ℕ
decimal_of text = if bytes_eq text (codes "0") then Some 0 else (if begins_with (codes "0") text then None else digits_of 10 text)

-- a number, at most 2^64 - 1; what begins as a name is none
abbrev pub number_of : Text → Option ℕ
number_of text = if begins_name text then None else within (if begins_with (codes "0x") text then digits_of 16 (drop 2 text) else decimal_of text)

-- K of a step `fK`
abbrev pub member_of : Text → Option ℕ
member_of text = if begins_with (codes "f") text then within (decimal_of (drop 1 text)) else None
