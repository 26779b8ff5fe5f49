use Rattle.std.proofs.Common.{◌+◌, ◌*◌}
use Rattle.hk_cells.proofs.multiples.+is_multiple.Given as goal

abbrev pub decreases-is_multiple : goal.decreases-is_multiple
decreases-is_multiple l = 3 * l.depth

abbrev pub decreases-is_operation : goal.decreases-is_operation
decreases-is_operation l = 3 * l.depth + 2

abbrev pub decreases-both : goal.decreases-both
decreases-both l = 3 * l.depth + 1
