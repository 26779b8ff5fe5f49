use Rattle.std.proofs.Common.{◌≡◌, take}
use Rattle.hk_graph.specs.Walks.{targets_of}
use Rattle.hk_unroll.specs.Arriving.{ArriveAll}
use Rattle.hk_unroll.proofs.copies.Copies.follow.Given as goal

-- the edges so far have arrived
abbrev pub invariant-loop-to : goal.invariant-loop-to
invariant-loop-to l = record {
  made : l.self.made.items ≡ l.fn.self.made.items;
  follows : ArriveAll l.most l.from (take l.to-index (targets_of l.graph l.from.block)) l.fn.self.layers.items l.self.layers.items;
}
