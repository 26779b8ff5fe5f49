use Rattle.std.proofs.Common.{◌-◌, ◌≤◌}
use Rattle.hk_symmem.proofs.constants.level_of.Given as goal

abbrev pub invariant-loop-level : goal.invariant-loop-level
invariant-loop-level l = l.level ≤ 63

abbrev pub decreases-loop-level : goal.decreases-loop-level
decreases-loop-level l = 63 - l.level
