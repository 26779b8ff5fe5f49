use Rattle.std.proofs.Common.{◌≤◌, ◌<◌, length, get_or}
use Rattle.hk_cdcl.proofs.search.levels_before.Given as goal

abbrev pub invariant-loop-count : goal.invariant-loop-count
invariant-loop-count l = (l.count < length l.levels) × (l.rest ≤ get_or l.levels l.count 0)

abbrev pub decreases-loop-count : goal.decreases-loop-count
decreases-loop-count l = l.count
