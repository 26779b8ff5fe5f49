use Rattle.std.proofs.Common.{◌≡◌, ◌≤◌, ◌<◌, ◌+◌, ◌^◌, length}
use Rattle.hk_cnf.specs.Text.{lines_of}
use Rattle.hk_lrat.specs.LogText.{rows_from, log_of}
use Rattle.hk_lrat.proofs.log_read.read_log.Given as goal

abbrev pub invariant-loop-rest : goal.invariant-loop-rest
invariant-loop-rest l = (rows_from l.rows l.log (lines_of l.rest) ≡ log_of l.text) × (l.rows + length l.rest ≤ length l.text) × (length l.text < 2 ^ 31)

abbrev pub decreases-loop-rest : goal.decreases-loop-rest
decreases-loop-rest l = length l.rest
