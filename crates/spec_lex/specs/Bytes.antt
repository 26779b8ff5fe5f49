-- The bytes of a specification text by what they may begin or go on with.
use Rattle.std.specs.Prelude.{ℕ, Bool, false, not, ◌&&◌, ◌||◌, ◌==◌, List, [], ◌∷◌, codes}
use Rattle.std.specs.Char.{is_ascii_digit, is_ascii_alphabetic}
use Rattle.std.specs.List.{list_any}

-- the byte is one of these
abbrev pub is_among : List ℕ → ℕ → Bool
is_among bytes b = list_any (λ y. y == b) bytes

-- a space, a tab or a carriage return
abbrev pub is_blank : ℕ → Bool
is_blank b = is_among (32 ∷ 9 ∷ 13 ∷ []) b

abbrev pub is_newline : ℕ → Bool
is_newline b = b == 10

abbrev pub is_in_row : ℕ → Bool
is_in_row b = not (is_newline b)

-- `#`
abbrev pub is_hash : ℕ → Bool
is_hash b = b == 35

-- a letter, a digit or `_`
abbrev pub is_word_byte : ℕ → Bool
is_word_byte b = is_ascii_alphabetic b || is_ascii_digit b || (b == 95)

-- a mark of one byte
abbrev pub is_single : ℕ → Bool
is_single b = is_among (codes "=<>+-*&|^~()[],.:") b

-- a mark of two bytes: == != <= >=, or << >>
abbrev pub is_pair : ℕ → ℕ → Bool
is_pair b next = ((next == 61) && is_among (codes "=!<>") b) || ((b == next) && is_among (codes "<>") b)

abbrev pub is_mark : List ℕ → Bool
is_mark (b ∷ []) = is_single b
is_mark (b ∷ next ∷ []) = is_pair b next
is_mark _ = false

-- the list begins with a byte that passes the test
abbrev pub begins : (ℕ → Bool) → List ℕ → Bool
begins test [] = false
begins test (b ∷ rest) = test b

-- the byte is at the front of no token, before these bytes
abbrev pub is_outside : ℕ → List ℕ → Bool
is_outside b rest = not (is_blank b || (is_hash b || (is_word_byte b || (begins (is_pair b) rest || is_single b))))
