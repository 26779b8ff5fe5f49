-- What an item adds to what stands before it, or why it is refused there: `K2` where it is out of place, else `K4` where a name of it
-- stands in its scope already.
use Rattle.std.specs.Prelude.{ℕ, Bool, true, false, not, ◌||◌, if◌then◌else◌, Option, Some, None, is_some, Result, Ok, Err, List, [], ◌∷◌, ◌++◌, map, bytes_eq, decimal}
use Rattle.std.specs.List.{list_any}
use Rattle.ir_ast.specs.Plain.{Ty}
use Rattle.ir_ast.specs.Program.{Act, goto, branch, switch, give, unreachable, InstrView, BlockView, FunctionView, TypeView, GlobalView, RangeView, LineView, ModuleView}
use Rattle.ir_ast.specs.Table.{place_of}
use Rattle.ir_ast.specs.declared.fault.KernelReason.{KernelReason}
use Rattle.ir_ast.specs.declared.fault.KernelReason.TheVariants.{K2, K4}
use Rattle.ir_lex.specs.Cut.{Cut}
use Rattle.ir_lex.specs.Items.{Top, layout_item, type_item, global_item, define_item, declare_item, Inner, label_item, instr_item, close_item, number_behind}
use Rattle.ir_read.specs.State.{BodyState, State, outside, inside}
use Rattle.ir_read.specs.Ahead.{holds_close, begins_unlabelled}
use Rattle.ir_read.specs.Reads.{Reading, passed, ranged, top_of, inner_of, refused}

-- what stands behind the item, or why it is refused
abbrev pub Out : Type 0 → Type 0
Out A = Result A KernelReason

-- ---- scopes

abbrev pub is_entry : {E : Type 0} → List ℕ → List (List ℕ × E) → Bool
is_entry name entries = is_some (place_of name entries)

-- an entry of a table, behind the others
abbrev pub with_entry : {E : Type 0} → List ℕ → E → List (List ℕ × E) → Out (List (List ℕ × E))
with_entry name entry entries = if is_entry name entries then Err K4 else Ok (entries ++ (name, entry) ∷ [])

-- globals and functions have one scope
abbrev pub is_symbol : List ℕ → ModuleView → Bool
is_symbol name m = is_entry name m.globals || is_entry name m.functions

-- the names of a function's scope
abbrev pub is_among : List ℕ → List (List ℕ) → Bool
is_among name names = list_any (bytes_eq name) names

abbrev pub with_name : List ℕ → List (List ℕ) → Out (List (List ℕ))
with_name name names = if is_among name names then Err K4 else Ok (names ++ name ∷ [])

abbrev pub after_name : Out (List (List ℕ)) → (List (List ℕ) → Out (List (List ℕ))) → Out (List (List ℕ))
after_name (Ok names) on = on names
after_name (Err reason) on = Err reason

abbrev pub with_names : List (List ℕ) → List (List ℕ) → Out (List (List ℕ))
with_names names [] = Ok names
with_names names (name ∷ others) = after_name (with_name name names) (λ names. with_names names others)

-- ---- items outside of bodies

abbrev pub then_outside : Out ModuleView → Out State
then_outside (Ok m) = Ok (outside m)
then_outside (Err reason) = Err reason

-- a second layout is out of place
abbrev pub layout_in : Option LineView → LineView → ModuleView → Out ModuleView
layout_in None text m = Ok (record m { layout_text = Some text })
layout_in (Some earlier) text m = Err K2

abbrev pub types_in : Out (List (List ℕ × TypeView)) → ModuleView → Out ModuleView
types_in (Ok types) m = Ok (record m { types = types })
types_in (Err reason) m = Err reason

abbrev pub ranges_in : Out (List (List ℕ × RangeView)) → ModuleView → Out ModuleView
ranges_in (Ok ranges) m = Ok (record m { ranges = ranges })
ranges_in (Err reason) m = Err reason

abbrev pub with_new_global : GlobalView → ModuleView → ModuleView
with_new_global g m = record m { globals = m.globals ++ (g.name, g) ∷ [] }

abbrev pub with_global : GlobalView → ModuleView → Out ModuleView
with_global g m = if is_symbol g.name m then Err K4 else Ok (with_new_global g m)

abbrev pub with_function : FunctionView → ModuleView → ModuleView
with_function f m = record m { functions = m.functions ++ (f.name, f) ∷ [] }

abbrev pub with_declared : FunctionView → ModuleView → Out ModuleView
with_declared f m = if is_symbol f.name m then Err K4 else Ok (with_function f m)

-- the name of a first block without a label: the number behind the parameters
abbrev pub first_name : List (Ty × List ℕ) → List ℕ
first_name parameters = decimal (number_behind 0 parameters)

abbrev pub first_block : Bool → FunctionView → Option BlockView
first_block true f = Some (record { line = f.line; name = first_name f.parameters; instrs = [] })
first_block false f = None

abbrev pub with_block : Option BlockView → List (List ℕ) → Out (List (List ℕ))
with_block None names = Ok names
with_block (Some block) names = with_name block.name names

-- the scope of a body begins with the names of the parameters, and of the first block where that has no label
abbrev pub scope_of : List (Ty × List ℕ) → Option BlockView → Out (List (List ℕ))
scope_of parameters block = after_name (with_names [] (map (λ p. p.1) parameters)) (with_block block)

abbrev pub begun : Out (List (List ℕ)) → FunctionView → Option BlockView → Out BodyState
begun (Ok names) f block = Ok (record { head = f; names = names; blocks = []; block = block })
begun (Err reason) f block = Err reason

abbrev pub begun_by : Bool → FunctionView → Out BodyState
begun_by unlabelled f = begun (scope_of f.parameters (first_block unlabelled f)) f (first_block unlabelled f)

-- the head of a function, before these items: `K2` where none of them closes its body
abbrev pub with_head : FunctionView → List Cut → ModuleView → Out BodyState
with_head f after m =
    if not (holds_close after) then Err K2
    else (if is_symbol f.name m then Err K4
    else begun_by (begins_unlabelled after) f)

abbrev pub then_inside : Out BodyState → ModuleView → Out State
then_inside (Ok b) m = Ok (inside m b)
then_inside (Err reason) m = Err reason

abbrev pub after_top : Top → ℕ → List Cut → ModuleView → Out State
after_top (layout_item bytes) line after m = then_outside (layout_in m.layout_text (record { line = line; bytes = bytes }) m)
after_top (type_item name over) line after m = then_outside (types_in (with_entry name (record { line = line; over = over }) m.types) m)
after_top (global_item name constant over init align) line after m =
    then_outside (with_global (record { line = line; name = name; constant = constant; over = over; init = init; align = align }) m)
after_top (define_item name result parameters) line after m =
    then_inside (with_head (record { line = line; name = name; result = result; parameters = parameters; body = None }) after m) m
after_top (declare_item name result) line after m =
    then_outside (with_declared (record { line = line; name = name; result = result; parameters = []; body = None }) m)

-- ---- items of bodies

-- a label begins a block, behind one that has ended
abbrev pub labelled : Out (List (List ℕ)) → BlockView → BodyState → Out BodyState
labelled (Ok names) block b = Ok (record b { names = names; block = Some block })
labelled (Err reason) block b = Err reason

abbrev pub label_in : Option BlockView → BlockView → BodyState → Out BodyState
label_in None block b = labelled (with_name block.name b.names) block b
label_in (Some earlier) block b = Err K2

-- `br`, `switch`, `ret` and `unreachable` end a block
abbrev pub is_end : Act → Bool
is_end (goto target) = true
is_end (branch condition taken other) = true
is_end (switch width on default cases) = true
is_end (give over value) = true
is_end unreachable = true
is_end _ = false

abbrev pub with_result : Option (List ℕ) → List (List ℕ) → Out (List (List ℕ))
with_result None names = Ok names
with_result (Some name) names = with_name name names

abbrev pub grown_block : BlockView → InstrView → BlockView
grown_block block i = record block { instrs = block.instrs ++ i ∷ [] }

-- a body behind an instruction of its last block
abbrev pub grown_body : List (List ℕ) → InstrView → BlockView → FunctionView → List BlockView → BodyState
grown_body names i block head blocks =
    if is_end i.act then record { head = head; names = names; blocks = blocks ++ grown_block block i ∷ []; block = None }
    else record { head = head; names = names; blocks = blocks; block = Some (grown_block block i) }

-- an instruction stands in a block that has not ended
abbrev pub instr_in : Out (List (List ℕ)) → InstrView → BlockView → BodyState → Out BodyState
instr_in (Ok names) i block b = Ok (grown_body names i block b.head b.blocks)
instr_in (Err reason) i block b = Err reason

abbrev pub instr_at : Option BlockView → InstrView → BodyState → Out BodyState
instr_at None i b = Err K2
instr_at (Some block) i b = instr_in (with_result i.result b.names) i block b

-- `}` stands behind one block or more, and the last has ended
abbrev pub closed_at : Option BlockView → List BlockView → FunctionView → Out FunctionView
closed_at (Some block) blocks head = Err K2
closed_at None [] head = Err K2
closed_at None (first ∷ others) head = Ok (record head { body = Some (first ∷ others) })

abbrev pub then_closed : Out FunctionView → ModuleView → Out State
then_closed (Ok f) m = Ok (outside (with_function f m))
then_closed (Err reason) m = Err reason

abbrev pub after_inner : Inner → ℕ → BodyState → ModuleView → Out State
after_inner (label_item name) line b m = then_inside (label_in b.block (record { line = line; name = name; instrs = [] }) b) m
after_inner (instr_item result act) line b m = then_inside (instr_at b.block (record { line = line; result = result; act = act }) b) m
after_inner close_item line b m = then_closed (closed_at b.block b.blocks b.head) m

-- ---- all items

abbrev pub then_whole : Out ModuleView → State → Out State
then_whole (Ok m) s = Ok (record s { whole = m })
then_whole (Err reason) s = Err reason

abbrev pub top_at : Option BodyState → Top → ℕ → List Cut → ModuleView → Out State
top_at None top line after m = after_top top line after m
top_at (Some b) top line after m = Err K2

abbrev pub inner_at : Option BodyState → Inner → ℕ → ModuleView → Out State
inner_at None inner line m = Err K2
inner_at (Some b) inner line m = after_inner inner line b m

-- what stands behind an item that is read so, on this line and before these others
abbrev pub after_reading : Reading → ℕ → List Cut → State → Out State
after_reading passed line after s = Ok s
after_reading (ranged name numbers) line after s = then_whole (ranges_in (with_entry name (record { line = line; numbers = numbers }) s.whole.ranges) s.whole) s
after_reading (top_of top) line after s = top_at s.body top line after s.whole
after_reading (inner_of inner) line after s = inner_at s.body inner line s.whole
after_reading (refused reason) line after s = Err reason
