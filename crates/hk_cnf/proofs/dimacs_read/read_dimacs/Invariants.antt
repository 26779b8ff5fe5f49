use Rattle.std.proofs.Common.{◌≡◌, ◌≤◌, ◌+◌, length}
use Rattle.hk_cnf.specs.Text.{lines_of}
use Rattle.hk_cnf.specs.Dimacs.{from_top, dimacs_of}
use Rattle.hk_cnf.proofs.dimacs_read.read_dimacs.Given as goal

abbrev pub invariant-loop-rest : goal.invariant-loop-rest
invariant-loop-rest l = (from_top l.line (lines_of l.rest) ≡ dimacs_of l.text) × (l.line + length l.rest ≤ length l.text)

abbrev pub decreases-loop-rest : goal.decreases-loop-rest
decreases-loop-rest l = length l.rest
