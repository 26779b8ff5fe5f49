use Rattle.std.proofs.Common.{◌≡◌, ◌≤◌, ◌+◌, [], length}
use Rattle.hk_cnf.specs.Text.{lines_of}
use Rattle.hk_cnf.specs.Dimacs.{from_body}
use Rattle.hk_cnf.proofs.dimacs_read.read_body.Given as goal

abbrev pub invariant-loop-rest : goal.invariant-loop-rest
invariant-loop-rest l =
    (from_body l.line l.clauses l.reading (lines_of l.rest) ≡ from_body l.before l.clauses (record { vars = l.vars; clauses = []; begun = [] }) (lines_of l.text))
    × (l.line + length l.rest ≤ l.before + length l.text)

abbrev pub decreases-loop-rest : goal.decreases-loop-rest
decreases-loop-rest l = length l.rest
