-- What a token says: its kind and its bytes.
use Rattle.std.specs.Prelude.{ℕ, suc, pred, Bool, true, false, ◌||◌, if◌then◌else◌, List, [], ◌∷◌, map, codes, bytes_eq}
use Rattle.spec_lex.specs.declared.token.TokenKind.{TokenKind}
use Rattle.spec_lex.specs.declared.token.Token.{Token}

pub record Lexeme : Type 0 where
  pub kind : TokenKind
  pub text : List ℕ

abbrev pub token_of : Token → Lexeme
token_of t = record { kind = t.kind; text = t.text.now }

abbrev pub tokens_of : List Token → List Lexeme
tokens_of ts = map token_of ts

abbrev pub is_none : List Lexeme → Bool
is_none [] = true
is_none (t ∷ ts) = false

abbrev pub is_opening : Lexeme → Bool
is_opening t = bytes_eq t.text (codes "(") || bytes_eq t.text (codes "[")

abbrev pub is_closing : Lexeme → Bool
is_closing t = bytes_eq t.text (codes ")") || bytes_eq t.text (codes "]")

-- the brackets that are open behind a token: their kind is not looked at, and a closing one too many does not count
abbrev pub open_behind : ℕ → Lexeme → ℕ
open_behind nest t = if is_opening t then suc nest else (if is_closing t then pred nest else nest)

abbrev pub open_after : ℕ → List Lexeme → ℕ
open_after nest [] = nest
open_after nest (t ∷ ts) = open_after (open_behind nest t) ts
