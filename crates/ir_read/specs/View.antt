-- What the reader's own types mean, and what its calls answer.
use Rattle.std.specs.Prelude.{◌≡◌, ℕ, ◌≤◌, true, Option, option_map, Result, Ok, Err, List, length, map}
use Rattle.ir_ast.specs.Program.{ModuleView}
use Rattle.ir_ast.specs.ProgramView.{view_op, view_block, view_function, view_type_entry, view_global, view_range, view_line, view_entries}
use Rattle.ir_ast.specs.declared.fault.KernelStop.{KernelStop}
use Rattle.ir_ast.specs.declared.fault.KernelStop.TheVariants.{Refused as TextRefused, Memory as NoMemory}
use Rattle.ir_lex.specs.Lexeme.{Lexeme}
use Rattle.ir_lex.specs.Items.{label_item, instr_item, close_item}
use Rattle.ir_top.specs.TopView.{view_top, view_numbers}
use Rattle.ir_read.specs.State.{BodyState, State}
use Rattle.ir_read.specs.Reads as plain
use Rattle.ir_read.specs.Steps.{Out}
use Rattle.ir_read.specs.declared.stop.Stop.{Stop}
use Rattle.ir_read.specs.declared.stop.Stop.TheVariants.{Refused as Stopped, Memory}
use Rattle.ir_read.specs.declared.body.Body.{Body}
use Rattle.ir_read.specs.declared.whole.Whole.{Whole}
use Rattle.ir_read.specs.declared.reading.Reading.{Reading}
use Rattle.ir_read.specs.declared.reading.Reading.TheVariants.{Passed, Range, Top, Label, Instr, Close, Refused}

abbrev pub view_body : Body → BodyState
view_body b = record { head = view_function b.head; names = b.names; blocks = map view_block b.blocks.items.items; block = option_map view_block b.open_block }

abbrev pub view_whole : Whole → ModuleView
view_whole w = record {
  layout_text = option_map view_line w.layout_text;
  types = view_entries view_type_entry w.types;
  globals = view_entries view_global w.globals;
  functions = view_entries view_function w.functions;
  ranges = view_entries view_range w.ranges;
}

abbrev pub state_of : Whole → Option Body → State
state_of w b = record { whole = view_whole w; body = option_map view_body b }

abbrev pub view_reading : Reading → plain.Reading
view_reading Passed = plain.passed
view_reading (Range name numbers) = plain.ranged name (view_numbers numbers.items.items)
view_reading (Top top) = plain.top_of (view_top top)
view_reading (Label name) = plain.inner_of (label_item name)
view_reading (Instr i) = plain.inner_of (instr_item i.result (view_op i.op))
view_reading Close = plain.inner_of close_item
view_reading (Refused reason) = plain.refused reason

-- an instruction has the line of its item
abbrev pub HasLine : Reading → ℕ → Type 0
HasLine (Instr i) line = i.line ≡ line
HasLine _ line = Unit {0}

-- no table has more entries than were counted
pub record AreCounted (w : Whole) : Type 0 where
  pub types : length w.types ≤ w.count
  pub globals : length w.globals ≤ w.count
  pub functions : length w.functions ≤ w.count
  pub ranges : length w.ranges ≤ w.count

-- the call answers what comes out, seen through this; memory may be refused at anything
abbrev pub Gives : {A B : Type 0} → (A → B) → Result A Stop → Out B → Type 0
Gives view (Ok a) out = out ≡ Ok (view a)
Gives view (Err (Stopped reason)) out = out ≡ Err reason
Gives view (Err Memory) out = Unit {0}

-- a dropped item is passed over or kept as a range, at any place
abbrev pub IsDropped : List Lexeme → Reading → Type 0
IsDropped ts Passed = plain.Reads true plain.passed ts
IsDropped ts (Range name numbers) = plain.Reads true (plain.ranged name (view_numbers numbers.items.items)) ts
IsDropped ts _ = ⊥

-- the refusal of an item on this line
abbrev pub stop_at : ℕ → Stop → KernelStop
stop_at line (Stopped reason) = TextRefused (record { line = line; reason = reason })
stop_at line Memory = NoMemory
