use Rattle.std.proofs.Common.{◌+◌, ◌*◌}
use Rattle.hk_symmem.proofs.multiples.+is_multiple.Given as goal

abbrev pub decreases-is_multiple : goal.decreases-is_multiple
decreases-is_multiple l = 3 * l.depth

abbrev pub decreases-is_multiple_of : goal.decreases-is_multiple_of
decreases-is_multiple_of l = 3 * l.depth + 2

abbrev pub decreases-both_multiples : goal.decreases-both_multiples
decreases-both_multiples l = 3 * l.depth + 1
