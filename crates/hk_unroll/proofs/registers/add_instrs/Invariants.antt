use Rattle.std.proofs.Common.{◌≡◌, ◌++◌, map, drop}
use Rattle.ir_ast.specs.ProgramView.{view_instr}
use Rattle.hk_unroll.specs.Registers.{set_in}
use Rattle.hk_unroll.proofs.registers.add_instrs.Given as goal

abbrev pub invariant-loop-place : goal.invariant-loop-place
invariant-loop-place l = l.registers ++ set_in l.block l.place (map view_instr (drop l.place l.instrs)) ≡ l.initial.registers ++ set_in l.block 0 (map view_instr l.instrs)
