-- How the lines of a text are read, one behind the other: the raw line of each, or the first fault.
use Rattle.std.specs.Prelude.{◌≡◌, ℕ, ◌+◌, Bool, false, not, ◌&&◌, if◌then◌else◌, ◌==◌, nat_le, Option, Some, None, Result, Ok, Err, List, [], ◌∷◌, ◌++◌, length}
use Rattle.spec_ast.specs.declared.fault.SpecReason.{SpecReason}
use Rattle.spec_ast.specs.declared.fault.SpecReason.TheVariants.{S3, S4}
use Rattle.spec_ast.specs.declared.fault.SpecFault.{SpecFault}
use Rattle.spec_ast.specs.declared.fault.SpecStop.{SpecStop}
use Rattle.spec_ast.specs.declared.fault.SpecStop.TheVariants.{Refused, Memory}
use Rattle.spec_ast.specs.Raw as raw
use Rattle.spec_ast.specs.Raw.{Item}
use Rattle.spec_lex.specs.Token.{Lexeme, open_behind}
use Rattle.spec_lex.specs.Lines.{Line}
use Rattle.spec_expr.specs.Grown.{Grown, built, too_deep}
use Rattle.spec_read.specs.Texts.{texts, is_def, has_return}
use Rattle.spec_read.specs.ItemReading.{item_at}
use Rattle.spec_read.specs.declared.section.Section.{Section}
use Rattle.spec_read.specs.Sections.{place_for, section_at, next_section}

-- the brackets are closed, and at no token more than 256 are open
abbrev pub closes : ℕ → List Lexeme → Bool
closes nest [] = nest == 0
closes nest (t ∷ ts) = if nat_le (open_behind nest t) 256 then closes (open_behind nest t) ts else false

abbrev pub fails : {A : Type 0} → Line → SpecReason → Result A SpecFault
fails l reason = Err (record { line = l.line; reason = reason })

-- a line that is read has a body behind it, if it needs one
abbrev pub with_body : Line → Item → List Line → Result Item SpecFault
with_body l item after = if is_def item && not (has_return after) then fails l S3 else Ok item

abbrev pub kept_whole : Line → Option (Grown Item) → List Line → Result Item SpecFault
kept_whole l None after = fails l S3
kept_whole l (Some too_deep) after = fails l S4
kept_whole l (Some (built item d)) after = with_body l item after

-- the words of a line in a section, before these other lines
abbrev pub words_read : Section → Line → List Line → Result Item SpecFault
words_read s l after = kept_whole l (item_at 100 (length (texts l) + 1) (place_for s) (texts l)) after

-- a line behind others of a section
abbrev pub line_read : Section → Line → List Line → Result Item SpecFault
line_read s l after = if closes 0 l.tokens then words_read (section_at s l) l after else fails l S3

abbrev pub put_first : raw.Line → Result (List raw.Line) SpecFault → Result (List raw.Line) SpecFault
put_first l (Ok ls) = Ok (l ∷ ls)
put_first l (Err fault) = Err fault

abbrev pub line_then : ℕ → Result Item SpecFault → (Item → Result (List raw.Line) SpecFault) → Result (List raw.Line) SpecFault
line_then line (Err fault) on = Err fault
line_then line (Ok item) on = put_first (record { line = line; item = item }) (on item)

unfoldable pub lines_read : Section → List Line → Result (List raw.Line) SpecFault
lines_read s [] = Ok []
lines_read s (l ∷ ls) = line_then l.line (line_read s l ls) (λ item. lines_read (next_section (section_at s l) item) ls)

-- these lines before those that are read
abbrev pub put_all : List raw.Line → Result (List raw.Line) SpecFault → Result (List raw.Line) SpecFault
put_all front (Ok ls) = Ok (front ++ ls)
put_all front (Err fault) = Err fault

-- the call answers what is read, seen through this, or its fault; memory may be refused anywhere
abbrev pub Tells : {A B : Type 0} → (A → B) → Result A SpecStop → Result B SpecFault → Type 0
Tells view (Ok a) read = read ≡ Ok (view a)
Tells view (Err (Refused fault)) read = read ≡ Err fault
Tells view (Err Memory) read = Unit {0}

-- one line more: what is left goes on to the same, or its fault is answered
abbrev pub GoesOn : List raw.Line → List raw.Line → Section → List Line → List Line → Result Section SpecStop → Type 0
GoesOn old new s ls after (Ok next) = put_all new (lines_read next after) ≡ put_all old (lines_read s ls)
GoesOn old new s ls after (Err (Refused fault)) = lines_read s ls ≡ Err fault
GoesOn old new s ls after (Err Memory) = Unit {0}
