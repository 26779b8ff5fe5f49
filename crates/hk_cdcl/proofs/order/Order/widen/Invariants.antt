use Rattle.std.proofs.Common.{◌-◌}
use Rattle.hk_cdcl.proofs.order.Order.widen.Given as goal

abbrev pub decreases-loop-self : goal.decreases-loop-self
decreases-loop-self l = l.vars - l.self
