use Rattle.std.proofs.Common.{length}
use Rattle.hk_inst.proofs.required.+refutation.Given as goal

abbrev pub decreases-refutation : goal.decreases-refutation
decreases-refutation l = length l.bound.now
