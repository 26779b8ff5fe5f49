-- That a text spells at most one raw specification, and none where it has a fault.
use Rattle.std.specs.Prelude.{◌≡◌, ℕ, ◌⊎◌, List}
use Rattle.spec_ast.specs.declared.fault.SpecFault.{SpecFault}
use Rattle.spec_ast.specs.Raw as raw
use Rattle.spec_ast.specs.Raw.{Item}
use Rattle.spec_lex.specs.Lines.{Line, AreLinesOf}
use Rattle.spec_lex.specs.Faults.{AreClean, IsFirstFault}
use Rattle.spec_expr.specs.Words.{Text}
use Rattle.spec_read.specs.Places.{Place, nowhere}
use Rattle.spec_read.specs.Items.{SpellsItem}
use Rattle.spec_read.specs.Texts.{SpellsLines, FailsAt}

abbrev pub SpellsOneItem : Type 0
SpellsOneItem = (place : Place) (i j : Item) (ts : List Text) → SpellsItem place i ts → SpellsItem place j ts → i ≡ j

-- a raw specification is that of the text: no logical line has a byte outside the tokens or another indentation than none or four spaces,
-- and the lines spell it
abbrev pub IsSpecOf : List ℕ → List raw.Line → Type 0
IsSpecOf text raws = (ls : List Line) × AreLinesOf text ls × AreClean ls × SpellsLines nowhere ls raws

-- the first fault of logical lines, and its least reason: of all of them S1 and S2, and where there is none S3 and S4
abbrev pub IsTextFault : List Line → SpecFault → Type 0
IsTextFault ls fault = IsFirstFault ls fault ⊎ (AreClean ls × FailsAt nowhere ls fault.line fault.reason)

-- a text fails so
abbrev pub FailsText : List ℕ → SpecFault → Type 0
FailsText text fault = (ls : List Line) × AreLinesOf text ls × IsTextFault ls fault

abbrev pub SpellsOneSpec : Type 0
SpellsOneSpec = (text : List ℕ) (a b : List raw.Line) → IsSpecOf text a → IsSpecOf text b → a ≡ b

abbrev pub FailsOrSpells : Type 0
FailsOrSpells = (text : List ℕ) (raws : List raw.Line) (fault : SpecFault) → IsSpecOf text raws → FailsText text fault → ⊥

abbrev pub HasOneFault : Type 0
HasOneFault = (text : List ℕ) (f g : SpecFault) → FailsText text f → FailsText text g → f ≡ g

abbrev pub SpellsOrFails : Type 0
SpellsOrFails = (text : List ℕ) → ((raws : List raw.Line) × IsSpecOf text raws) ⊎ ((fault : SpecFault) × FailsText text fault)
