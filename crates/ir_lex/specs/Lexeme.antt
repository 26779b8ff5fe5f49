-- What a token says: its kind, its line and its bytes.
use Rattle.std.specs.Prelude.{ℕ, List, map}
use Rattle.ir_lex.specs.declared.token.TokenKind.{TokenKind}
use Rattle.ir_lex.specs.declared.token.Token.{Token}

pub record Lexeme : Type 0 where
  pub kind : TokenKind
  pub line : ℕ
  pub text : List ℕ

abbrev pub lexeme : Token → Lexeme
lexeme t = record { kind = t.kind; line = t.line; text = t.text.now }

abbrev pub lexemes : List Token → List Lexeme
lexemes ts = map lexeme ts
