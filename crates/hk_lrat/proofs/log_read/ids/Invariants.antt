use Rattle.std.proofs.Common.{◌≡◌, false, length}
use Rattle.hk_cnf.specs.Text.{words_of}
use Rattle.hk_lrat.specs.LogText.{part, after_items, id_of}
use Rattle.hk_lrat.proofs.log_read.ids.Given as goal

abbrev pub invariant-loop-token : goal.invariant-loop-token
invariant-loop-token l =
    (after_items l.ids.items (part id_of (words_of false l.rest)) ≡ after_items l.initial.ids.items (part id_of (words_of false l.line)))

abbrev pub decreases-loop-token : goal.decreases-loop-token
decreases-loop-token l = length l.rest
