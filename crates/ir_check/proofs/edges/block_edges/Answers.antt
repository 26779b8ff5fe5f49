use Rattle.std.proofs.Common.{subst, List}
use Rattle.std.specs.Prelude.{IfOk, OnOk, bytes_eq, ◌≡◌}
use Rattle.std.specs.List.{IsDistinct}
use Rattle.ir_ast.specs.Program.{BlockView}
use Rattle.ir_ast.specs.Table.{names_of}
use Rattle.ir_check.specs.Graphs.{graph_by, named, block_targets}
use Rattle.ir_check.proofs.edges.block_edges.Goals as goal

pub returns-clause-graph : goal.returns-clause-graph
returns-clause-graph c = subst (λ (bs : List BlockView). IfOk c.edges_among.result (λ g. g ≡ graph_by block_targets (named bs))) c.blocks_of.ensures c.edges_among.ensures.graph

pub returns-clause-distinct : goal.returns-clause-distinct
returns-clause-distinct c = subst (λ (bs : List BlockView). OnOk c.edges_among.result (IsDistinct bytes_eq (names_of (named bs)))) c.blocks_of.ensures c.edges_among.ensures.distinct
