-- That the spelling determines the tree of an item.
use Rattle.std.specs.Prelude.{◌≡◌, List}
use Rattle.ir_lex.specs.Lexeme.{Lexeme}
use Rattle.ir_lex.specs.Tok.{Tok}
use Rattle.ir_lex.specs.Items.{Inner, SpellsInner, ReadsInner}

abbrev pub SpellsOneInner : Type 0
SpellsOneInner = (a b : Inner) (ts : List Tok) → SpellsInner a ts → SpellsInner b ts → a ≡ b

abbrev pub ReadsOneInner : Type 0
ReadsOneInner = (a b : Inner) (ts : List Lexeme) → ReadsInner a ts → ReadsInner b ts → a ≡ b
