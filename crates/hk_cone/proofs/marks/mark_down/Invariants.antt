use Rattle.std.proofs.Common.{◌≤◌, ◌+◌}
use Rattle.hk_cone.specs.Cones.{AreMarked}
use Rattle.hk_cone.proofs.marks.mark_down.Given as goal

abbrev pub invariant-down : goal.invariant-down
invariant-down l = (l.at ≤ l.root + 1) × (AreMarked l.terms l.root l.at l.marks)

abbrev pub decreases-down : goal.decreases-down
decreases-down l = l.at
