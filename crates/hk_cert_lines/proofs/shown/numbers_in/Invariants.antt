use Rattle.std.proofs.Common.{◌≡◌, false, length}
use Rattle.hk_cnf.specs.Text.{words_of}
use Rattle.hk_cert_lines.specs.Shown.{numbers_in, after_numbers}
use Rattle.hk_cert_lines.proofs.shown.numbers_in.Given as goal

abbrev pub invariant-loop-word : goal.invariant-loop-word
invariant-loop-word l = after_numbers l.numbers.items (numbers_in (words_of false l.rest)) ≡ numbers_in (words_of false l.line)

abbrev pub decreases-loop-word : goal.decreases-loop-word
decreases-loop-word l = length l.rest
