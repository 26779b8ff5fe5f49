use Rattle.std.proofs.Common.{◌<◌, ◌-◌, length}
use Rattle.hk_cdcl.specs.Order.{AreBelow}
use Rattle.hk_cdcl.proofs.order.sift_down.Given as goal

abbrev pub invariant-down : goal.invariant-down
invariant-down l = (l.place < length l.heap) × AreBelow (length l.places) l.heap

abbrev pub decreases-down : goal.decreases-down
decreases-down l = length l.heap - l.place
