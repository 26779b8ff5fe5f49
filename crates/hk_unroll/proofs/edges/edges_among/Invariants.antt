use Rattle.std.proofs.Common.{◌≡◌, ◌++◌, map, drop}
use Rattle.ir_ast.specs.ProgramView.{view_block}
use Rattle.ir_check.specs.Graphs.{places_among, block_targets}
use Rattle.hk_unroll.proofs.edges.edges_among.Given as goal

abbrev pub invariant-loop-block : goal.invariant-loop-block
invariant-loop-block l =
    l.graph ++ map (λ b. places_among l.index (block_targets (view_block b))) (drop l.block-index l.blocks)
    ≡ map (λ b. places_among l.index (block_targets (view_block b))) l.blocks
