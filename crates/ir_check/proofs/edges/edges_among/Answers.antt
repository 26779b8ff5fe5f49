use Rattle.std.proofs.Common.{◌≡◌, map, arith}
use Rattle.std.proofs.lemmas.Grind.{common_steps}
use Rattle.ir_ast.specs.ProgramView.{view_block}
use Rattle.ir_check.specs.Graphs.{places_among, block_targets}
use Rattle.ir_check.proofs.EdgeLaws.{graph_made, names_differ}
use Rattle.ir_check.proofs.edges.edges_among.Goals as goal

pub returns-clause-graph : goal.returns-clause-graph
returns-clause-graph c =
    let made : c.loop-block.graph ≡ map (λ b. places_among c.in_ok-index.index (block_targets (view_block b))) c.args.blocks.now = grind (arith, common_steps, c.loop-block.invariant) in
    graph_made c.in_ok-index.index c.args.blocks.now c.loop-block.graph c.in_ok-index.ensures made

pub returns-clause-distinct : goal.returns-clause-distinct
returns-clause-distinct c = names_differ c.in_ok-index.index c.args.blocks.now c.in_ok-index.ensures c.len.ensures.distinct
