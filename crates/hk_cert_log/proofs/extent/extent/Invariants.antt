use Rattle.std.proofs.Common.{◌≤◌, ◌-◌}
use Rattle.hk_cert_log.specs.Extents.{AreLines}
use Rattle.hk_cert_log.proofs.extent.extent.Given as goal

abbrev pub invariant-loop-rows : goal.invariant-loop-rows
invariant-loop-rows l = AreLines l.text l.rows l.end × (l.rows ≤ l.due)

abbrev pub decreases-loop-rows : goal.decreases-loop-rows
decreases-loop-rows l = l.due - l.rows
