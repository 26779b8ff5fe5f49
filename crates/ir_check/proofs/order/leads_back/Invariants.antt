use Rattle.std.proofs.Common.{ℕ, ◌<◌}
use Rattle.hk_graph.specs.Walks.{HasEdge}
use Rattle.ir_check.proofs.order.leads_back.Given as goal

abbrev pub invariant-loop-node : goal.invariant-loop-node
invariant-loop-node l = (p : ℕ) → p < l.node → HasEdge l.graph p 0 → ⊥
