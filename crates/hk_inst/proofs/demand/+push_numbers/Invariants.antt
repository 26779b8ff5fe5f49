use Rattle.std.proofs.Common.{length}
use Rattle.hk_inst.proofs.demand.+push_numbers.Given as goal

abbrev pub decreases-push_numbers : goal.decreases-push_numbers
decreases-push_numbers l = length l.bound.now
