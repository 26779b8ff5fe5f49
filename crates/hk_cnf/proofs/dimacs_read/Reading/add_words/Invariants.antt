use Rattle.std.proofs.Common.{◌≡◌, ◌<◌, ◌^◌, true, length}
use Rattle.hk_cnf.specs.Text.{words_of}
use Rattle.hk_cnf.specs.Dimacs.{with_words}
use Rattle.hk_cnf.proofs.dimacs_read.Reading.add_words.Given as goal

abbrev pub invariant-loop-word : goal.invariant-loop-word
invariant-loop-word l =
    (with_words l.self (words_of true l.rest) ≡ with_words l.initial.self (words_of true l.line))
    × (l.self.vars ≡ l.vars)
    × (l.vars < 2 ^ 63)

abbrev pub decreases-loop-word : goal.decreases-loop-word
decreases-loop-word l = length l.rest
