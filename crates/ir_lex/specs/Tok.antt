-- What a production spells: tokens without their lines.
use Rattle.std.specs.Prelude.{◌≡◌, ℕ, List, [], ◌∷◌, map, codes}
use Rattle.ir_lex.specs.Lexeme.{Lexeme}
use Rattle.ir_lex.specs.Names.{sigil_name}
use Rattle.ir_lex.specs.declared.token.TokenKind.{TokenKind}
use Rattle.ir_lex.specs.declared.token.TokenKind.TheVariants.{Word, Local, Global, Mark}

abbrev pub Tok : Type 0
Tok = TokenKind × List ℕ

abbrev pub tok : Lexeme → Tok
tok t = (t.kind, t.text)

abbrev pub toks : List Lexeme → List Tok
toks ts = map tok ts

abbrev pub word : List ℕ → Tok
word text = (Word, text)

abbrev pub mark : ℕ → Tok
mark byte = (Mark, byte ∷ [])

-- `%NAME`, `@NAME`, `label %NAME`
abbrev pub IsLocal : List ℕ → List Tok → Type 0
IsLocal name ts = (text : List ℕ) × (sigil_name text ≡ name) × (ts ≡ (Local, text) ∷ [])

abbrev pub IsGlobal : List ℕ → List Tok → Type 0
IsGlobal name ts = (text : List ℕ) × (sigil_name text ≡ name) × (ts ≡ (Global, text) ∷ [])

abbrev pub IsLabel : List ℕ → List Tok → Type 0
IsLabel name ts = (target : List Tok) × IsLocal name target × (ts ≡ word (codes "label") ∷ target)
