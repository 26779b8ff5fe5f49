-- That the spelling determines the tree.
use Rattle.std.specs.Prelude.{◌≡◌, ℕ, Option, List, codes}
use Rattle.ir_ast.specs.Plain.{Ty}
use Rattle.ir_ast.specs.Program.{Act}
use Rattle.ir_lex.specs.Tok.{Tok}
use Rattle.ir_lex.specs.Rows.{SpellsRow, reserving}
use Rattle.ir_lex.specs.TypeSpelling.{Spells}

abbrev pub SpellsOneType : Type 0
SpellsOneType = (t u : Ty) (ts : List Tok) → Spells t ts → Spells u ts → t ≡ u

abbrev pub SpellsOneSlot : Type 0
SpellsOneSlot = (r s : Option (List ℕ)) (a b : Act) (ts : List Tok) →
    SpellsRow (codes "alloca", reserving) r a ts → SpellsRow (codes "alloca", reserving) s b ts → (r ≡ s) × (a ≡ b)
