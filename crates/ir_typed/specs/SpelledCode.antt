-- The same of the instructions, blocks and functions of the code.
use Rattle.std.specs.Prelude.{ℕ, Bool, true, Option, Some, None, List}
use Rattle.std.specs.List.{list_all}
use Rattle.ir_ast.specs.ProgramView.{view_op}
use Rattle.ir_ast.specs.declared.instr.Instr.{Instr}
use Rattle.ir_ast.specs.declared.instr.Block.{Block}
use Rattle.ir_ast.specs.declared.instr.BlockList.{BlockList}
use Rattle.ir_ast.specs.declared.instr.Function.{Function}
use Rattle.ir_typed.specs.Spelled.{is_spelled}

abbrev pub are_instrs_spelled : List Instr → Bool
are_instrs_spelled instrs = list_all (λ (i : Instr). is_spelled (view_op i.op)) instrs

abbrev pub are_blocks_spelled : List Block → Bool
are_blocks_spelled blocks = list_all (λ (b : Block). are_instrs_spelled b.instrs.items.items) blocks

abbrev pub is_body_spelled : Option BlockList → Bool
is_body_spelled None = true
is_body_spelled (Some blocks) = are_blocks_spelled blocks.items.items

abbrev pub are_functions_spelled : List (List ℕ × Function) → Bool
are_functions_spelled functions = list_all (λ (e : List ℕ × Function). is_body_spelled e.1.body) functions
