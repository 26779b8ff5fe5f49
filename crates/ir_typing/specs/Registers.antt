-- The registers of a function, and what each of them holds.
use Rattle.std.specs.Prelude.{ℕ, ◌==◌, Bool, false, if◌then◌else◌, Option, Some, None, option_and_then, option_to_list, is_some, List, ◌++◌, map, flat_map, find, bytes_eq}
use Rattle.ir_ast.specs.Plain.{Ty, integer, pointer}
use Rattle.ir_ast.specs.Program.{Act, binary, compare, select, convert, freeze, phi, slot, load, offset, call, extract, InstrView, BlockView, FunctionView, ModuleView}
use Rattle.ir_type.specs.Names.{entry_of}
use Rattle.ir_typing.specs.Intrinsics.{Intrinsic, intrinsic_of}

pub data Kind : Type 0 where
  -- a number or a pointer of this type
  value_of : Ty → Kind
  -- the address of a slot of this type
  slot_of : Ty → Kind
  -- the result, of this type, of a call with overflow
  pair_of : Ty → Kind

abbrev pub overflows : Option Intrinsic → Bool
overflows None = false
overflows (Some i) = i.overflow

-- what the register holds that an instruction sets
abbrev pub kind_of : Act → Option Kind
kind_of (binary kind flags w a b) = Some (value_of (integer w))
kind_of (compare samesign predicate over a b) = Some (value_of (integer 1))
kind_of (select condition over a b) = Some (value_of over)
kind_of (convert kind flags from to a) = Some (value_of (integer to))
kind_of (freeze over a) = Some (value_of over)
kind_of (phi over arms) = Some (value_of over)
kind_of (slot over align) = Some (slot_of over)
kind_of (load over target align range) = Some (value_of over)
kind_of (offset f) = Some (value_of pointer)
kind_of (call result callee arguments) = Some (if overflows (intrinsic_of callee) then pair_of result else value_of result)
kind_of (extract w from part) = Some (value_of (if part == 0 then integer w else integer 1))
kind_of _ = None

abbrev pub blocks_of : FunctionView → List BlockView
blocks_of f = flat_map (λ blocks. blocks) (option_to_list f.body)

-- the register that an instruction sets, with its kind
abbrev pub set_by : InstrView → List (List ℕ × Kind)
set_by i = flat_map (λ x. map (λ kind. (x, kind)) (option_to_list (kind_of i.act))) (option_to_list i.result)

-- the parameters, and the results in text order
abbrev pub registers_of : FunctionView → List (List ℕ × Kind)
registers_of f = map (λ p. (p.1, value_of p.0)) f.parameters ++ flat_map (λ b. flat_map set_by b.instrs) (blocks_of f)

-- ---- functions by name

abbrev pub function_of : ModuleView → List ℕ → Option FunctionView
function_of m name = entry_of name m.functions

-- a function of this name with a body
abbrev pub has_body : ModuleView → List ℕ → Bool
has_body m name = is_some (option_and_then (λ f. f.body) (function_of m name))

abbrev pub block_of : FunctionView → List ℕ → Option BlockView
block_of f name = find (λ b. bytes_eq name b.name) (blocks_of f)
