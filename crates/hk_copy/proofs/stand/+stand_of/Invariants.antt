use Rattle.std.proofs.Common.{length}
use Rattle.hk_copy.proofs.stand.+stand_of.Given as goal

abbrev pub decreases-stand_of : goal.decreases-stand_of
decreases-stand_of l = length l.stands.now
