use Rattle.std.proofs.Common.{length}
use Rattle.hk_symspec_tests.proofs.fitting.+are_arguments.Given as goal

abbrev pub decreases-are_arguments : goal.decreases-are_arguments
decreases-are_arguments l = length l.widths.now
