use Rattle.std.proofs.Common.{◌+◌, ◌*◌}
use Rattle.spec_take.proofs.widths.+own.Given as goal

abbrev pub decreases-own : goal.decreases-own
decreases-own l = 2 * goal.size-own l

abbrev pub decreases-of_unary : goal.decreases-of_unary
decreases-of_unary l = 2 * goal.size-of_unary l + 1

abbrev pub decreases-of_resize : goal.decreases-of_resize
decreases-of_resize l = 2 * goal.size-of_resize l + 1

abbrev pub decreases-or_own : goal.decreases-or_own
decreases-or_own l = 2 * goal.size-or_own l + 1
