-- What the code keeps of a function's places.
use Rattle.std.specs.Prelude.{◌≡◌, Bool, List, map, flat_map, length}
use Rattle.ir_ast.specs.Program.{InstrView, FunctionView}
use Rattle.ir_ast.specs.ProgramView.{view_instr}
use Rattle.ir_ast.specs.declared.instr.Instr.{Instr}
use Rattle.ir_ast.specs.declared.instr.Block.{Block}
use Rattle.ir_typing.specs.Registers.{set_by}
use Rattle.ir_typing.specs.Places.{register_names, block_names}
use Rattle.ir_resolve.specs.declared.local.Local.{Local}
use Rattle.ir_resolve.specs.Acts.{is_slot, slots_of}

-- whether what an instruction sets holds the address of a slot, where it sets something
abbrev pub set_flags : InstrView → List Bool
set_flags i = map (λ r. is_slot r.1) (set_by i)

abbrev pub instr_flags : List Instr → List Bool
instr_flags is = flat_map (λ i. set_flags (view_instr i)) is

abbrev pub block_flags : List Block → List Bool
block_flags bs = flat_map (λ b. instr_flags b.instrs.items.items) bs

pub record IsLocalOf (f : FunctionView) (l : Local) : Type 0 where
  pub slots : l.slots.items ≡ slots_of f
  pub registers : l.registers ≡ length (register_names f)
  pub blocks : l.blocks ≡ length (block_names f)
