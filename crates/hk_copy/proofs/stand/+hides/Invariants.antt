use Rattle.std.proofs.Common.{length}
use Rattle.hk_copy.proofs.stand.+hides.Given as goal

abbrev pub decreases-hides : goal.decreases-hides
decreases-hides l = length l.stands.now
