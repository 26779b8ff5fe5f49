use Rattle.hk_cdcl.specs.Forgetting.{Learns}
use Rattle.hk_cdcl.proofs.segments.segments.Given as goal

abbrev pub invariant-more : goal.invariant-more
invariant-more l = Learns l.initial.whole l.whole

abbrev pub decreases-more : goal.decreases-more
decreases-more l = l.left
