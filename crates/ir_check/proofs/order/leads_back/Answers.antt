use Rattle.std.proofs.Common.{sym, subst, arith, below_more}
use Rattle.std.specs.Prelude.{Contains}
use Rattle.hk_graph.specs.Walks.{HasEdge}
use Rattle.ir_check.proofs.OrderFacts.{no_edge_back}
use Rattle.ir_check.proofs.order.leads_back.Goals as goal

pub loop-node-preserved : goal.loop-node-preserved
loop-node-preserved c =
    below_more (λ p. HasEdge c.args.graph.now p 0 → ⊥) _ c.loop-node.invariant (λ e. c.if-has_first.ensures (subst (λ ts. Contains ts 0) (sym c.targets.ensures) e))

pub returns : goal.returns
returns c = no_edge_back c.args.graph.now c.loop-node.node (omega arith) c.loop-node.invariant
