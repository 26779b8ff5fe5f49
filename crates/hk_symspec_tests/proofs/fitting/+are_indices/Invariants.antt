use Rattle.std.proofs.Common.{length}
use Rattle.hk_symspec_tests.proofs.fitting.+are_indices.Given as goal

abbrev pub decreases-are_indices : goal.decreases-are_indices
decreases-are_indices l = length l.keys.now
