-- The code of a module: what runs stand on. Functions, blocks, registers and objects are their places in text order; where a name
-- stands twice, its first place counts.
use Rattle.std.specs.Prelude.{ℕ, Option, List, map, position, option_and_then, bytes_eq, length}
use Rattle.ir_ast.specs.Program.{InstrView, BlockView, FunctionView, GlobalView, ModuleView}
use Rattle.ir_layout.specs.Sizes.{object_align}
use Rattle.ir_typing.specs.Registers.{blocks_of}
use Rattle.ir_typing.specs.Places.{register_names}
use Rattle.ir_code.specs.declared.act.Step.{Step}
use Rattle.ir_code.specs.declared.program.Block.{Block}
use Rattle.ir_code.specs.declared.program.Code.{Code}
use Rattle.ir_code.specs.declared.program.Object.{Object}
use Rattle.ir_code.specs.declared.program.Program.{Program}
use Rattle.ir_resolve.specs.Acts.{act_of}

-- the place of the register that an instruction sets
abbrev pub result_place : FunctionView → Option (List ℕ) → Option ℕ
result_place f name = option_and_then (λ x. position (bytes_eq x) (register_names f)) name

abbrev pub step_of : ModuleView → FunctionView → InstrView → Step
step_of m f i = record { line = i.line; result = result_place f i.result; act = act_of m f i.act }

abbrev pub block_of : ModuleView → FunctionView → BlockView → Block
block_of m f b = record { steps = map (step_of m f) b.instrs }

abbrev pub code_of : ModuleView → FunctionView → Code
code_of m f = record { parameters = length f.parameters; registers = length (register_names f); blocks = map (block_of m f) (blocks_of f) }

abbrev pub object_of : ModuleView → GlobalView → Object
object_of m g = record { constant = g.constant; align = object_align m.types g }

abbrev pub program_of : ModuleView → Program
program_of m = record { functions = map (λ e. code_of m e.1) m.functions; objects = map (λ e. object_of m e.1) m.globals }
