use Rattle.std.proofs.Common.{◌≡◌, false, length}
use Rattle.hk_cnf.specs.Text.{words_of}
use Rattle.hk_lrat.specs.LogText.{part, hint_in}
use Rattle.hk_lrat.specs.Tokens.{after_hints}
use Rattle.hk_lrat.proofs.log_read.hints.Given as goal

abbrev pub invariant-loop-token : goal.invariant-loop-token
invariant-loop-token l =
    (after_hints l.ids.items l.negative (part hint_in (words_of false l.rest)) ≡ after_hints l.initial.ids.items false (part hint_in (words_of false l.line)))

abbrev pub decreases-loop-token : goal.decreases-loop-token
decreases-loop-token l = length l.rest
