-- What an answer of the lexer says of its text. Memory may be refused at any text.
use Rattle.std.specs.Prelude.{◌≡◌, ℕ, ◌≤◌, Result, Ok, Err, List, length}
use Rattle.spec_ast.specs.declared.fault.SpecFault.{SpecFault}
use Rattle.spec_ast.specs.declared.fault.SpecStop.{SpecStop}
use Rattle.spec_ast.specs.declared.fault.SpecStop.TheVariants.{Refused, Memory}
use Rattle.spec_lex.specs.Lines.{Line, AreLinesOf, rows_of}
use Rattle.spec_lex.specs.Faults.{IsFirstFault}

-- these lines are the answer
abbrev pub IsRead : List Line → Result (List Line) SpecStop → Type 0
IsRead ls (Ok read) = read ≡ ls
IsRead ls (Err (Refused fault)) = ⊥
IsRead ls (Err Memory) = Unit {0}

-- this fault is the answer
abbrev pub IsRefused : SpecFault → Result (List Line) SpecStop → Type 0
IsRefused fault (Ok read) = ⊥
IsRefused fault (Err (Refused given)) = given ≡ fault
IsRefused fault (Err Memory) = Unit {0}

-- a fault is that of the first line of the text which fails
abbrev pub IsFaultOf : List ℕ → SpecStop → Type 0
IsFaultOf text (Refused fault) = (ls : List Line) × AreLinesOf text ls × IsFirstFault ls fault
IsFaultOf text Memory = Unit {0}

-- the line of a fault is one of the text
abbrev pub IsLineOf : List ℕ → SpecStop → Type 0
IsLineOf text (Refused fault) = (1 ≤ fault.line) × (fault.line ≤ length (rows_of text))
IsLineOf text Memory = Unit {0}
