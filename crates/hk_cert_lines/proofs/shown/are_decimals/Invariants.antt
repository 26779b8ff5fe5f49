use Rattle.std.proofs.Common.{◌≡◌, false, length}
use Rattle.std.specs.List.{list_all}
use Rattle.hk_cnf.specs.Text.{words_of}
use Rattle.hk_cert_lines.specs.Words.{is_decimal}
use Rattle.hk_cert_lines.proofs.shown.are_decimals.Given as goal

abbrev pub invariant-loop-word : goal.invariant-loop-word
invariant-loop-word l = list_all is_decimal (words_of false l.rest) ≡ list_all is_decimal (words_of false l.line)

abbrev pub decreases-loop-word : goal.decreases-loop-word
decreases-loop-word l = length l.rest
