use Rattle.std.proofs.Common.{length}
use Rattle.hk_symspec_tests.proofs.fitting.+are_numbers.Given as goal

abbrev pub decreases-are_numbers : goal.decreases-are_numbers
decreases-are_numbers l = length l.widths.now
