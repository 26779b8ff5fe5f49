-- The registers that parts of a function set.
use Rattle.std.specs.Prelude.{List, ℕ, map, flat_map}
use Rattle.ir_ast.specs.View.{view_type}
use Rattle.ir_ast.specs.ProgramView.{view_instr}
use Rattle.ir_ast.specs.declared.types.IrType.{IrType}
use Rattle.ir_ast.specs.declared.instr.Instr.{Instr}
use Rattle.ir_ast.specs.declared.instr.Block.{Block}
use Rattle.ir_typing.specs.Registers.{Kind, value_of, set_by}

abbrev pub of_parameters : List (IrType × List ℕ) → List (List ℕ × Kind)
of_parameters parameters = map (λ p. (p.1, value_of (view_type p.0))) parameters

abbrev pub of_instrs : List Instr → List (List ℕ × Kind)
of_instrs instrs = flat_map (λ i. set_by (view_instr i)) instrs

abbrev pub of_blocks : List Block → List (List ℕ × Kind)
of_blocks blocks = flat_map (λ b. of_instrs b.instrs.items.items) blocks
