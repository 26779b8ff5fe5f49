use Rattle.std.proofs.Common.{◌<◌, length}
use Rattle.hk_cdcl.specs.Order.{AreBelow}
use Rattle.hk_cdcl.proofs.order.sift_up.Given as goal

abbrev pub invariant-loop-place : goal.invariant-loop-place
invariant-loop-place l = (l.place < length l.heap) × AreBelow (length l.places) l.heap

abbrev pub decreases-loop-place : goal.decreases-loop-place
decreases-loop-place l = l.place
