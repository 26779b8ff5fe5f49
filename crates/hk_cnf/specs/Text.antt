-- Lines, words and decimal numbers of a text of bytes.
use Rattle.std.specs.Prelude.{◌≡◌, ◌⊎◌, ℕ, ◌<◌, ◌+◌, ◌*◌, Bool, false, ◌&&◌, ◌||◌, ◌==◌, nat_le, if◌then◌else◌, List, [], ◌∷◌, ℤ, pos, neg_ℤ, Option, Some, None}
use Rattle.std.specs.Char.{is_ascii_digit, digit_value}
use Rattle.std.specs.Str.{all_ascii_digits}
use Rattle.std.specs.Str.Parse.{digits_value}

-- a byte before the first of these pieces
abbrev pub with_first : ℕ → List (List ℕ) → List (List ℕ)
with_first b [] = (b ∷ []) ∷ []
with_first b (piece ∷ pieces) = (b ∷ piece) ∷ pieces

-- the lines, which newlines end; a newline at the end opens no further line
abbrev pub lines_of : List ℕ → List (List ℕ)
lines_of [] = []
lines_of (b ∷ text) = if b == 10 then [] ∷ lines_of text else with_first b (lines_of text)

-- a space or a tab, and where they count as blanks a carriage return
abbrev pub is_blank : Bool → ℕ → Bool
is_blank returns b = b == 32 || (b == 9 || (returns && b == 13))

-- a byte that is no blank, before a text with these words: it joins the first unless the text begins with a blank
abbrev pub word_before : Bool → ℕ → List ℕ → List (List ℕ) → List (List ℕ)
word_before returns b [] words = (b ∷ []) ∷ words
word_before returns b (c ∷ text) words = if is_blank returns c then (b ∷ []) ∷ words else with_first b words

-- the words, which blanks separate
abbrev pub words_of : Bool → List ℕ → List (List ℕ)
words_of returns [] = []
words_of returns (b ∷ text) = if is_blank returns b then words_of returns text else word_before returns b text (words_of returns text)

-- one digit or more, and nothing else
abbrev pub is_numeral : List ℕ → Bool
is_numeral [] = false
is_numeral (b ∷ word) = all_ascii_digits (b ∷ word)

-- the number that the word writes, if it is at most this one
abbrev pub natural_of : ℕ → List ℕ → Option ℕ
natural_of most word = if is_numeral word && nat_le (digits_value 10 word) most then Some (digits_value 10 word) else None

-- the byte is no digit, or makes the number greater than this one
abbrev pub Refuses : ℕ → ℕ → ℕ → Type 0
Refuses value byte most = (is_ascii_digit byte ≡ false) ⊎ (most < value * 10 + digit_value byte)

-- a number's sign and its digits
abbrev pub is_minus : List ℕ → Bool
is_minus [] = false
is_minus (b ∷ word) = b == 45

abbrev pub unsigned : List ℕ → List ℕ
unsigned [] = []
unsigned (b ∷ word) = if b == 45 then word else b ∷ word

abbrev pub with_sign : Bool → Option ℕ → Option ℤ
with_sign minus None = None
with_sign minus (Some n) = Some (if minus then neg_ℤ (pos n) else pos n)

-- the number that the word writes, with an optional minus, where its size is at most this one
abbrev pub number_in : ℕ → List ℕ → Option ℤ
number_in most word = with_sign (is_minus word) (natural_of most (unsigned word))
