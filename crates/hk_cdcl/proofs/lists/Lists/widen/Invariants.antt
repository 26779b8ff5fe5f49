use Rattle.std.proofs.Common.{◌-◌, length}
use Rattle.hk_cdcl.specs.Slots.{IsLonger}
use Rattle.hk_cdcl.proofs.lists.Lists.widen.Given as goal

abbrev pub invariant-loop-self : goal.invariant-loop-self
invariant-loop-self l = IsLonger l.initial.self l.self

abbrev pub decreases-loop-self : goal.decreases-loop-self
decreases-loop-self l = l.count - length l.self
