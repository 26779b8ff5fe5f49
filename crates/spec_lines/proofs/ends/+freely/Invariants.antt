use Rattle.std.proofs.Common.{◌+◌, ◌*◌}
use Rattle.spec_lines.proofs.ends.+freely.Given as goal

abbrev pub decreases-fits_freely : goal.decreases-fits_freely
decreases-fits_freely l = 2 * goal.size-fits_freely l

abbrev pub decreases-and_freely : goal.decreases-and_freely
decreases-and_freely l = 2 * goal.size-and_freely l + 1
