use Rattle.std.proofs.Common.{◌≡◌, length}
use Rattle.hk_cnf.specs.Text.{lines_of}
use Rattle.spec_tree.specs.View.{view_field}
use Rattle.hk_cert.specs.States.{entries_from, zeros}
use Rattle.hk_cert.proofs.states.entries.Given as goal

abbrev pub invariant-loop-entries : goal.invariant-loop-entries
invariant-loop-entries l =
    entries_from (view_field l.field) l.entries.items l.low l.line (lines_of l.text)
    ≡ entries_from (view_field l.field) (zeros l.count) 0 l.fn.at.line (lines_of l.fn.at.text.now)

abbrev pub decreases-loop-entries : goal.decreases-loop-entries
decreases-loop-entries l = length l.text
