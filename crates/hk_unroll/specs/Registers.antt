-- The registers of a function by name, and where each is set.
use Rattle.std.specs.Prelude.{ℕ, ◌+◌, Bool, true, false, if◌then◌else◌, ◌==◌, Option, Some, None, option_map, option_to_list, option_and_then, unwrap_or, List, [], ◌∷◌, ◌++◌, map, flat_map, slice_get}
use Rattle.ir_ast.specs.Plain.{Ty, nothing}
use Rattle.ir_ast.specs.Program.{Act, InstrView, BlockView, FunctionView}
use Rattle.ir_ast.specs.Table.{place_of}
use Rattle.ir_type.specs.Names.{entry_of}
use Rattle.ir_typing.specs.Registers.{Kind, value_of, slot_of, pair_of, kind_of, blocks_of}
use Rattle.hk_unroll.specs.declared.registers.Holding.{Holding}
use Rattle.hk_unroll.specs.declared.registers.Holding.TheVariants.{Value, Slot, Pair}
use Rattle.hk_unroll.specs.declared.registers.Setting.{Setting}

abbrev pub holding : Kind → Holding
holding (value_of t) = Value
holding (slot_of t) = Slot
holding (pair_of t) = Pair

abbrev pub type_in : Kind → Ty
type_in (value_of t) = t
type_in (slot_of t) = t
type_in (pair_of t) = t

-- what the register holds that an instruction sets, where it may set one
abbrev pub holding_of : Act → Option Holding
holding_of act = option_map holding (kind_of act)

abbrev pub setting_at : ℕ → ℕ → ℕ → Holding → Setting
setting_at block place line h = record { block = block; place = place; line = line; holding = h }

-- the register that an instruction sets, where it sets one
abbrev pub set_at : ℕ → ℕ → InstrView → List (List ℕ × Option Setting)
set_at block place i = flat_map (λ x. map (λ h. (x, Some (setting_at block place i.line h))) (option_to_list (holding_of i.act))) (option_to_list i.result)

-- those of the instructions of a block from this place on
abbrev pub set_in : ℕ → ℕ → List InstrView → List (List ℕ × Option Setting)
set_in block place [] = []
set_in block place (i ∷ is) = set_at block place i ++ set_in block (place + 1) is

-- those of the blocks from this place on
abbrev pub set_among : ℕ → List BlockView → List (List ℕ × Option Setting)
set_among block [] = []
set_among block (b ∷ bs) = set_in block 0 b.instrs ++ set_among (block + 1) bs

-- parameters are set by no instruction
abbrev pub parameters_of : {T : Type 0} → List (T × List ℕ) → List (List ℕ × Option Setting)
parameters_of parameters = map (λ p. (p.1, None)) parameters

-- the registers of a function: the parameters, and what instructions set, in text order
abbrev pub registers_of : FunctionView → List (List ℕ × Option Setting)
registers_of f = parameters_of f.parameters ++ set_among 0 (blocks_of f)

-- where a register is set: nowhere where it is a parameter, or none of the function
abbrev pub entry_setting : List (List ℕ × Option Setting) → List ℕ → Option Setting
entry_setting registers x = option_and_then (λ s. s) (entry_of x registers)

abbrev pub setting_of : FunctionView → List ℕ → Option Setting
setting_of f x = entry_setting (registers_of f) x

-- the place of a register among them
abbrev pub register_place : FunctionView → List ℕ → ℕ
register_place f x = unwrap_or (place_of x (registers_of f)) 0

-- the type of what is set there
abbrev pub type_set : Act → Ty
type_set act = unwrap_or (option_map type_in (kind_of act)) nothing

abbrev pub instr_at : List BlockView → ℕ → ℕ → Option InstrView
instr_at blocks block place = option_and_then (λ (b : BlockView). slice_get b.instrs place) (slice_get blocks block)

abbrev pub type_of : List BlockView → Setting → Ty
type_of blocks s = unwrap_or (option_map (λ (i : InstrView). type_set i.act) (instr_at blocks s.block s.place)) nothing
