-- Tokens told apart by their bytes.
use Rattle.std.specs.Prelude.{ℕ, Bool, true, false, ◌&&◌, ◌==◌, List, [], ◌∷◌, bytes_eq}
use Rattle.ir_lex.specs.Lexeme.{Lexeme}
use Rattle.ir_lex.specs.declared.token.TokenKind.{TokenKind}
use Rattle.ir_lex.specs.declared.token.TokenKind.TheVariants.{Word, Mark}

abbrev pub is_word_kind : TokenKind → Bool
is_word_kind Word = true
is_word_kind _ = false

abbrev pub is_mark_kind : TokenKind → Bool
is_mark_kind Mark = true
is_mark_kind _ = false

abbrev pub is_byte : ℕ → List ℕ → Bool
is_byte byte (b ∷ []) = b == byte
is_byte byte _ = false

-- the token is this word
unfoldable pub is_word : List ℕ → Lexeme → Bool
is_word word t = is_word_kind t.kind && bytes_eq t.text word

-- the token is the mark of this byte
unfoldable pub is_mark : ℕ → Lexeme → Bool
is_mark byte t = is_mark_kind t.kind && is_byte byte t.text

-- the first token passes the test
abbrev pub front_passes : (Lexeme → Bool) → List Lexeme → Bool
front_passes test [] = false
front_passes test (t ∷ ts) = test t
