use Rattle.std.proofs.Common.{take}
use Rattle.hk_flow.specs.Sums.{IsSummed}
use Rattle.hk_flow.proofs.totals.sums.Given as goal

abbrev pub invariant-loop-at : goal.invariant-loop-at
invariant-loop-at l = IsSummed l.graph l.own l.top l.totals.items (take l.at l.order.nodes.items)
