use Rattle.std.proofs.Common.{◌≡◌, ◌≤◌, length}
use Rattle.hk_cdcl.specs.Path.{cut_at}
use Rattle.hk_cdcl.proofs.trail.Trail.cut.Given as goal

abbrev pub invariant-loop-len : goal.invariant-loop-len
invariant-loop-len l = (l.kept ≤ l.len) × (l.len ≤ length l.initial.self.lits) × (l.self ≡ cut_at l.initial.self l.len)

abbrev pub decreases-loop-len : goal.decreases-loop-len
decreases-loop-len l = l.len
