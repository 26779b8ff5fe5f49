use Rattle.std.proofs.Common.{◌≡◌, ◌++◌, map, drop}
use Rattle.ir_ast.specs.ProgramView.{view_block}
use Rattle.hk_unroll.specs.Registers.{set_among}
use Rattle.hk_unroll.proofs.registers.add_blocks.Given as goal

abbrev pub invariant-loop-place : goal.invariant-loop-place
invariant-loop-place l = l.registers ++ set_among l.place (map view_block (drop l.place l.blocks)) ≡ l.initial.registers ++ set_among 0 (map view_block l.blocks)
