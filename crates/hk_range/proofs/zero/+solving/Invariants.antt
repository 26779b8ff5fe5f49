use Rattle.std.proofs.Common.{◌+◌, ◌*◌}
use Rattle.hk_range.proofs.zero.+solving.Given as goal

abbrev pub decreases-solve : goal.decreases-solve
decreases-solve l = 2 * l.depth + 1

abbrev pub decreases-solve_halves : goal.decreases-solve_halves
decreases-solve_halves l = 2 * l.depth + 2
