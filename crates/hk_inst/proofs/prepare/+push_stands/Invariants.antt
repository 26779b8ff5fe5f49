use Rattle.std.proofs.Common.{length}
use Rattle.hk_inst.proofs.prepare.+push_stands.Given as goal

abbrev pub decreases-push_stands : goal.decreases-push_stands
decreases-push_stands l = length l.bound.now
