-- From the lines that are read to what the answer for a text says.
use Rattle.std.proofs.Common.{◌≡◌, ℕ, inl, inr, List, refl, subst}
use Rattle.std.specs.Prelude.{Option, Some, None, ◌⊎◌, Result, Ok, Err}
use Rattle.spec_ast.specs.declared.fault.SpecFault.{SpecFault}
use Rattle.spec_ast.specs.declared.fault.SpecStop.{SpecStop}
use Rattle.spec_ast.specs.declared.fault.SpecStop.TheVariants.{Refused, Memory}
use Rattle.spec_ast.specs.Raw as raw
use Rattle.spec_ast.specs.View.{view_spec}
use Rattle.spec_ast.specs.declared.raw.RawSpec.{RawSpec}
use Rattle.spec_lex.specs.Lines.{Line, AreLinesOf}
use Rattle.spec_lex.specs.Faults.{AreClean, first_fault}
use Rattle.spec_lex.specs.Reading.{read_lines}
use Rattle.spec_lex.proofs.LineLaws.{lines_sound}
use Rattle.spec_lex.proofs.FaultLaws.{none_clean, fault_first}
use Rattle.spec_lex.specs.Answers.{IsFaultOf}
use Rattle.spec_read.specs.Places.{nowhere}
use Rattle.spec_read.specs.declared.section.Section.TheVariants.{Nowhere}
use Rattle.spec_read.specs.LineReading.{lines_read}
use Rattle.spec_read.specs.Laws.{IsSpecOf, FailsText}
use Rattle.spec_read.specs.Told.{TextTold, IsAnswer, IsRead, IsRefused}
use Rattle.spec_read.proofs.LineTold.{lines_told}
use Rattle.spec_read.proofs.TextLaws.{one_spec, fails_or_spells, one_fault_only}

told_by : (ls : List Line) (r : Result (List raw.Line) SpecFault) → lines_read Nowhere ls ≡ r → TextTold nowhere ls r
told_by ls r reads = subst (TextTold nowhere ls) reads (lines_told ls nowhere)

-- the ways out
pub answers_read : (text : List ℕ) (ls : List Line) (spec : RawSpec) → AreLinesOf text ls → AreClean ls → lines_read Nowhere ls ≡ Ok (view_spec spec) → IsAnswer text (Ok spec)
answers_read text ls spec are clean reads = (ls, are, clean, told_by ls (Ok (view_spec spec)) reads)

-- the lines that are read have this fault; want of memory says nothing
abbrev pub FaultTold : SpecStop → Result (List raw.Line) SpecFault → Type 0
FaultTold (Refused fault) read = read ≡ Err fault
FaultTold Memory read = Unit {0}

pub answers_fault : (text : List ℕ) (ls : List Line) (stop : SpecStop) → AreLinesOf text ls → AreClean ls → FaultTold stop (lines_read Nowhere ls) → IsAnswer text (Err stop)
answers_fault text ls (Refused fault) are clean reads = (ls, are, inr (clean, told_by ls (Err fault) reads))
answers_fault text ls Memory are clean reads = tt

pub answers_lines : (text : List ℕ) (stop : SpecStop) → IsFaultOf text stop → IsAnswer text (Err stop)
answers_lines text (Refused fault) (ls, are, first) = (ls, are, inl first)
answers_lines text Memory fault = tt

-- from the answer to the others
pub answer_only : (text : List ℕ) (r : Result RawSpec SpecStop) → IsAnswer text r → (raws : List raw.Line) → IsSpecOf text raws → IsRead raws r
answer_only text (Ok spec) is raws spells = one_spec text (view_spec spec) raws is spells
answer_only text (Err (Refused fault)) is raws spells = fails_or_spells text raws fault spells is
answer_only text (Err Memory) is raws spells = tt

pub answer_first : (text : List ℕ) (r : Result RawSpec SpecStop) → IsAnswer text r → (fault : SpecFault) → FailsText text fault → IsRefused fault r
answer_first text (Ok spec) is fault fails = fails_or_spells text (view_spec spec) fault is fails
answer_first text (Err (Refused given)) is fault fails = one_fault_only text given fault is fails
answer_first text (Err Memory) is fault fails = tt

-- ---- every text has an answer

lines_by : (text : List ℕ) (ls : List Line) (r : Result (List raw.Line) SpecFault) → AreLinesOf text ls → AreClean ls → lines_read Nowhere ls ≡ r → ((raws : List raw.Line) × IsSpecOf text raws) ⊎ ((fault : SpecFault) × FailsText text fault)
lines_by text ls (Ok raws) are clean reads = inl (raws, (ls, are, clean, told_by ls (Ok raws) reads))
lines_by text ls (Err fault) are clean reads = inr (fault, (ls, are, inr (clean, told_by ls (Err fault) reads)))

first_by : (text : List ℕ) (ls : List Line) (o : Option SpecFault) → AreLinesOf text ls → first_fault ls ≡ o → ((raws : List raw.Line) × IsSpecOf text raws) ⊎ ((fault : SpecFault) × FailsText text fault)
first_by text ls None are is = lines_by text ls (lines_read Nowhere ls) are (none_clean ls is) refl
first_by text ls (Some fault) are is = inr (fault, (ls, are, inl (fault_first ls fault is)))

pub spells_or_fails : (text : List ℕ) → ((raws : List raw.Line) × IsSpecOf text raws) ⊎ ((fault : SpecFault) × FailsText text fault)
spells_or_fails text = first_by text (read_lines text) (first_fault (read_lines text)) (lines_sound text) refl
