-- Words and numbers of the lines of a certificate.
use Rattle.std.specs.Prelude.{ℕ, ◌^◌, ◌-◌, Bool, true, false, not, ◌&&◌, ◌||◌, ◌==◌, nat_lt, if◌then◌else◌, List, [], ◌∷◌, take, drop, length, Option, Some, None, Result, Ok, Err, codes, bytes_eq}
use Rattle.std.specs.List.{list_all}
use Rattle.std.specs.Char.{is_ascii_alphanumeric, is_ascii_digit}
use Rattle.hk_cnf.specs.Text.{is_blank, natural_of}
use Rattle.hk_cert_lines.specs.declared.reason.CertReason.{CertReason}
use Rattle.hk_cert_lines.specs.declared.reason.CertReason.TheVariants.{Q1, Q2}

-- the words of a line stand apart by single spaces, with no blank at its ends; `behind`: the byte before was a blank, or there is none
abbrev pub is_spaced : Bool → List ℕ → Bool
is_spaced behind [] = not behind
is_spaced behind (b ∷ line) = if is_blank false b then (if behind then false else (if b == 32 then is_spaced true line else false)) else is_spaced false line

-- what follows a text at the front of a line
abbrev pub behind : List ℕ → List ℕ → Option (List ℕ)
behind front line = if bytes_eq (take (length front) line) front then Some (drop (length front) line) else None

abbrev pub begins : List ℕ → List ℕ → Bool
begins front line = bytes_eq (take (length front) line) front

-- ---- names

abbrev pub is_word_byte : ℕ → Bool
is_word_byte b = is_ascii_alphanumeric b || b == 95

-- letters, digits and `_`: what an invariant's or a property's name is, without its prefix
abbrev pub is_word : List ℕ → Bool
is_word [] = false
is_word (b ∷ word) = list_all is_word_byte (b ∷ word)

abbrev pub begins_name : List ℕ → Bool
begins_name [] = false
begins_name (b ∷ word) = not (is_ascii_digit b)

abbrev pub is_keyword : List ℕ → Bool
is_keyword word = bytes_eq word (codes "class") || bytes_eq word (codes "def") || bytes_eq word (codes "return") || bytes_eq word (codes "True") || bytes_eq word (codes "False")

-- what a field's name is
abbrev pub is_name : List ℕ → Bool
is_name word = is_word word && (begins_name word && not (is_keyword word))

-- names of functions that are no handlers
abbrev pub is_kept : List ℕ → Bool
is_kept word = bytes_eq word (codes "equiv") || begins (codes "inv_") word || begins (codes "prop_") word || begins (codes "step_") word || begins (codes "count_") word || begins (codes "view_") word

-- what a handler's name is
abbrev pub is_handler_name : List ℕ → Bool
is_handler_name word = is_name word && not (is_kept word)

-- ---- numbers

-- more digits behind a first one
abbrev pub leads : ℕ → List ℕ → Bool
leads b [] = true
leads b (c ∷ word) = not (b == 48)

-- decimal digits, of which the first is 0 only where it is the only one
abbrev pub is_decimal : List ℕ → Bool
is_decimal [] = false
is_decimal (b ∷ word) = list_all is_ascii_digit (b ∷ word) && leads b word

-- a number that is found is in its range
abbrev pub in_range : Option ℕ → Result ℕ CertReason
in_range None = Err Q2
in_range (Some n) = Ok n

-- the number that a word writes: a word that writes none is Q1, and a number over this one is Q2
abbrev pub number_at : ℕ → List ℕ → Result ℕ CertReason
number_at most word = if is_decimal word then in_range (natural_of most word) else Err Q1

abbrev pub narrow : ℕ → Option ℕ → Result ℕ CertReason
narrow width None = Err Q2
narrow width (Some n) = if nat_lt n (2 ^ width) then Ok n else Err Q2

-- the number of a width
abbrev pub number_of_width : ℕ → List ℕ → Result ℕ CertReason
number_of_width width word = if is_decimal word then narrow width (natural_of (2 ^ 64 - 1) word) else Err Q1
