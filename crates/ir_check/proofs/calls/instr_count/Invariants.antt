use Rattle.std.proofs.Common.{◌≡◌, ◌+◌, length, map, drop}
use Rattle.std.specs.Prelude.{flat_map}
use Rattle.ir_ast.specs.ProgramView.{view_block}
use Rattle.ir_check.proofs.calls.instr_count.Given as goal

abbrev pub invariant-loop-block : goal.invariant-loop-block
invariant-loop-block l =
    l.count + length (flat_map (λ b. b.instrs) (map view_block (drop l.block-index l.blocks)))
    ≡ length (flat_map (λ b. b.instrs) (map view_block l.blocks))
