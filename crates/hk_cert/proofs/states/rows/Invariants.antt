use Rattle.std.proofs.Common.{◌≡◌, [], length}
use Rattle.hk_cnf.specs.Text.{lines_of}
use Rattle.hk_cert.specs.States.{rows_from}
use Rattle.hk_cert.proofs.states.rows.Given as goal

abbrev pub invariant-loop-bytes : goal.invariant-loop-bytes
invariant-loop-bytes l = rows_from l.shown l.size l.bytes.items l.line (lines_of l.text) ≡ rows_from l.shown l.size [] l.fn.at.line (lines_of l.fn.at.text.now)

abbrev pub decreases-loop-bytes : goal.decreases-loop-bytes
decreases-loop-bytes l = length l.text
