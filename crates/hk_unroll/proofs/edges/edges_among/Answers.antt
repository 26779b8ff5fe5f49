use Rattle.std.proofs.Common.{◌≡◌, map, arith}
use Rattle.std.proofs.lemmas.Grind.{common_steps}
use Rattle.ir_ast.specs.ProgramView.{view_block}
use Rattle.ir_check.specs.Graphs.{places_among, block_targets}
use Rattle.ir_check.proofs.EdgeLaws.{graph_made}
use Rattle.hk_unroll.proofs.edges.edges_among.Goals as goal

pub returns : goal.returns
returns c =
    let made : c.loop-block.graph ≡ map (λ b. places_among c.args.index.now (block_targets (view_block b))) c.args.blocks.now = grind (arith, common_steps, c.loop-block.invariant) in
    graph_made c.args.index.now c.args.blocks.now c.loop-block.graph c.requires.index made
