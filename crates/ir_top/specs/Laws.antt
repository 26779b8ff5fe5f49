-- That the items outside of bodies, and ranges, are read exactly where they are spelled.
use Rattle.std.specs.Prelude.{◌≡◌, ℕ, ℤ, List}
use Rattle.ir_ast.specs.Plain.{Ty}
use Rattle.ir_lex.specs.Lexeme.{Lexeme}
use Rattle.ir_lex.specs.Tok.{Tok}
use Rattle.ir_lex.specs.Items.{Top, SpellsTop, ReadsTop, SpellsRangeItem}

abbrev pub SpellsOneTop : Type 0
SpellsOneTop = (a b : Top) (ts : List Tok) → SpellsTop a ts → SpellsTop b ts → a ≡ b

abbrev pub ReadsOneTop : Type 0
ReadsOneTop = (a b : Top) (ts : List Lexeme) → ReadsTop a ts → ReadsTop b ts → a ≡ b

abbrev pub SpellsOneRange : Type 0
SpellsOneRange = (x y : List ℕ) (ns ms : List (Ty × ℤ)) (ts : List Tok) → SpellsRangeItem x ns ts → SpellsRangeItem y ms ts → (x ≡ y) × (ns ≡ ms)
