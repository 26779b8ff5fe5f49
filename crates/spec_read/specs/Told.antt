-- What the answers of the reader say of lines and of whole texts. Memory may be refused anywhere.
use Rattle.std.specs.Prelude.{◌≡◌, ℕ, Result, Ok, Err, List}
use Rattle.spec_ast.specs.declared.fault.SpecFault.{SpecFault}
use Rattle.spec_ast.specs.declared.fault.SpecStop.{SpecStop}
use Rattle.spec_ast.specs.declared.fault.SpecStop.TheVariants.{Refused, Memory}
use Rattle.spec_ast.specs.Raw as raw
use Rattle.spec_ast.specs.Raw.{Item}
use Rattle.spec_ast.specs.View.{view_item, view_spec}
use Rattle.spec_ast.specs.declared.raw.RawItem.{RawItem}
use Rattle.spec_ast.specs.declared.raw.RawSpec.{RawSpec}
use Rattle.spec_lex.specs.Lines.{Line}
use Rattle.spec_read.specs.Places.{Place}
use Rattle.spec_read.specs.Texts.{SpellsLine, IsS4, IsLineFault, SpellsLines, FailsAt}
use Rattle.spec_read.specs.Laws.{IsSpecOf, FailsText}

-- a line is what it spells at its place, before these others, or it fails so
abbrev pub LineTold : Place → Line → List Line → Result Item SpecFault → Type 0
LineTold place l after (Ok item) = SpellsLine place l after item × (IsS4 item → ⊥)
LineTold place l after (Err fault) = (fault.line ≡ l.line) × IsLineFault place l after fault.reason

-- lines are what they spell behind a place, or the first one that fails does so
abbrev pub TextTold : Place → List Line → Result (List raw.Line) SpecFault → Type 0
TextTold place ls (Ok raws) = SpellsLines place ls raws
TextTold place ls (Err fault) = FailsAt place ls fault.line fault.reason

-- the answer for a line is right
abbrev pub IsLineAnswer : Place → Line → List Line → Result RawItem SpecStop → Type 0
IsLineAnswer place l after (Ok item) = LineTold place l after (Ok (view_item item))
IsLineAnswer place l after (Err (Refused fault)) = LineTold place l after (Err fault)
IsLineAnswer place l after (Err Memory) = Unit {0}

-- the answer for a text is right: its raw specification, or its fault
abbrev pub IsAnswer : List ℕ → Result RawSpec SpecStop → Type 0
IsAnswer text (Ok spec) = IsSpecOf text (view_spec spec)
IsAnswer text (Err (Refused fault)) = FailsText text fault
IsAnswer text (Err Memory) = Unit {0}

-- this raw specification is the answer
abbrev pub IsRead : List raw.Line → Result RawSpec SpecStop → Type 0
IsRead raws (Ok spec) = view_spec spec ≡ raws
IsRead raws (Err (Refused fault)) = ⊥
IsRead raws (Err Memory) = Unit {0}

-- this fault is the answer
abbrev pub IsRefused : SpecFault → Result RawSpec SpecStop → Type 0
IsRefused fault (Ok spec) = ⊥
IsRefused fault (Err (Refused given)) = given ≡ fault
IsRefused fault (Err Memory) = Unit {0}
