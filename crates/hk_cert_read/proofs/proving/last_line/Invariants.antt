use Rattle.std.proofs.Common.{◌≡◌, length}
use Rattle.hk_cnf.specs.Text.{lines_of}
use Rattle.hk_cert.specs.Reading.{proof_from}
use Rattle.hk_cert_read.proofs.proving.last_line.Given as goal

abbrev pub invariant-lines : goal.invariant-lines
invariant-lines l = proof_from l.wide l.instances l.line (lines_of l.text) ≡ proof_from l.wide l.initial.instances l.fn.at.line (lines_of l.fn.at.text.now)

abbrev pub decreases-lines : goal.decreases-lines
decreases-lines l = length l.text
