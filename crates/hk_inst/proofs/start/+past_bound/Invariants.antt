use Rattle.std.proofs.Common.{length}
use Rattle.hk_inst.proofs.start.+past_bound.Given as goal

abbrev pub decreases-past_bound : goal.decreases-past_bound
decreases-past_bound l = length l.bound.now
