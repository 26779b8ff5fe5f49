-- The bytes of a kernel text by what they may begin or go on with (LLVM Language Reference, "Identifiers").
use Rattle.std.specs.Prelude.{ℕ, Bool, false, not, ◌||◌, ◌==◌, List, [], ◌∷◌, length, take_while}
use Rattle.std.specs.Char.{is_ascii_digit, is_ascii_alphabetic}

-- a space, a tab or a carriage return
abbrev pub is_blank : ℕ → Bool
is_blank b = (b == 32) || (b == 9) || (b == 13)

-- a letter, `_` or `$`
abbrev pub is_letter : ℕ → Bool
is_letter b = is_ascii_alphabetic b || (b == 95) || (b == 36)

-- a letter, `_`, `$`, a digit, `.` or `-`
abbrev pub is_name_byte : ℕ → Bool
is_name_byte b = is_letter b || is_ascii_digit b || (b == 46) || (b == 45)

-- = , ( ) [ ] { } < > * : |
abbrev pub is_mark_byte : ℕ → Bool
is_mark_byte b = (b == 61) || (b == 44) || (b == 40) || (b == 41) || (b == 91) || (b == 93) || (b == 123) || (b == 125) || (b == 60) || (b == 62) || (b == 42) || (b == 58) || (b == 124)

-- a byte that goes on with a comment: any but a newline
abbrev pub is_in_line : ℕ → Bool
is_in_line b = not (b == 10)

-- a byte that a string holds: any but a quote and a newline
abbrev pub is_in_string : ℕ → Bool
is_in_string b = not ((b == 34) || (b == 10))

-- how many bytes from the front on pass the test
abbrev pub run : (ℕ → Bool) → List ℕ → ℕ
run test bytes = length (take_while test bytes)

-- the list begins with this byte
abbrev pub begins_with : ℕ → List ℕ → Bool
begins_with byte [] = false
begins_with byte (b ∷ rest) = b == byte
