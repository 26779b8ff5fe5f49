use Rattle.std.proofs.Common.{length}
use Rattle.hk_inst.proofs.subject.+is_tuple.Given as goal

abbrev pub decreases-is_tuple : goal.decreases-is_tuple
decreases-is_tuple l = length l.bound.now
