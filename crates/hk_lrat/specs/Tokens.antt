-- The words of a row as the numbers that they spell.
use Rattle.std.specs.Prelude.{◌≡◌, ℕ, ◌-◌, ◌<◌, ◌^◌, Bool, true, false, ◌||◌, List, [], ◌∷◌, ◌++◌, map, ℤ, pos, neg_ℤ, nat_abs, Option, Some, None}
use Rattle.std.specs.List.{list_any}
use Rattle.std.specs.Str.{all_ascii_digits}
use Rattle.hk_cnf.specs.Literal.{is_negation}
use Rattle.hk_cnf.specs.Text.{words_of, is_blank, natural_of}
use Rattle.hk_lrat.specs.LogText.{is_end, id_of, hint_in}
use Rattle.hk_lrat.specs.declared.token.Token.{Token}
use Rattle.hk_lrat.specs.declared.token.Token.TheVariants.{End, Natural, Minus, Other}

-- whether it ends a part
abbrev pub is_end_token : Token → Bool
is_end_token End = true
is_end_token (Natural n) = false
is_end_token (Minus n) = false
is_end_token Other = false

-- the id that it spells, and the number
abbrev pub id_in : Token → Option ℕ
id_in End = Some 0
id_in (Natural n) = Some n
id_in (Minus n) = None
id_in Other = None

abbrev pub number_of : Token → Option ℤ
number_of End = Some (pos 0)
number_of (Natural n) = Some (pos n)
number_of (Minus n) = Some (neg_ℤ (pos n))
number_of Other = None

-- the number without its sign
abbrev pub size_in : Token → ℕ
size_in End = 0
size_in (Natural n) = n
size_in (Minus n) = n
size_in Other = 0

-- a hint without its sign, and whether it is negative
abbrev pub hint_parts : Option ℤ → Option (ℕ × Bool)
hint_parts None = None
hint_parts (Some z) = Some (nat_abs z, is_negation z)

-- hints without their signs after these, whether one is negative, and the words behind them
abbrev pub after_hints : List ℕ → Bool → Option (List ℤ × List (List ℕ)) → Option (List ℕ × (Bool × List (List ℕ)))
after_hints ids negative None = None
after_hints ids negative (Some p) = Some (ids ++ map nat_abs p.0, (negative || list_any is_negation p.0, p.1))

-- the token says what the word spells
pub record Says (token : Token) (word : List ℕ) : Type 0 where
  pub ending : is_end word ≡ is_end_token token
  pub id : id_of word ≡ id_in token
  pub number : hint_in word ≡ number_of token
  pub small : size_in token < 2 ^ 63

-- the first word of a line, and what is behind it
pub record IsToken (line rest : List ℕ) (token : Token) : Type 0 where
  pub word : List ℕ
  pub words : words_of false line ≡ word ∷ words_of false rest
  pub says : Says token word

-- a word ends where a blank stands, and at the end
abbrev pub ends_word : List ℕ → Bool
ends_word [] = true
ends_word (b ∷ rest) = is_blank false b

-- a word of digits at the front of a line, and what is behind it
pub record IsNumber (line rest : List ℕ) (n : ℕ) : Type 0 where
  pub word : List ℕ
  pub parts : line ≡ word ++ rest
  pub digits : all_ascii_digits word ≡ true
  pub value : natural_of (2 ^ 63 - 1) word ≡ Some n
  pub positive : 0 < n
  pub small : n < 2 ^ 63
  pub ends : ends_word rest ≡ true
