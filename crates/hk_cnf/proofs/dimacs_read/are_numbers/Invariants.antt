use Rattle.std.proofs.Common.{◌≡◌, true, length}
use Rattle.std.specs.List.{list_all}
use Rattle.hk_cnf.specs.Text.{words_of}
use Rattle.hk_cnf.specs.Dimacs.{is_number}
use Rattle.hk_cnf.proofs.dimacs_read.are_numbers.Given as goal

abbrev pub invariant-loop-word : goal.invariant-loop-word
invariant-loop-word l = list_all is_number (words_of true l.rest) ≡ list_all is_number (words_of true l.line)

abbrev pub decreases-loop-word : goal.decreases-loop-word
decreases-loop-word l = length l.rest
