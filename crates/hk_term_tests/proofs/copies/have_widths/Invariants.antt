use Rattle.std.proofs.Common.{ℕ, ◌<◌, get_or}
use Rattle.hk_copy.specs.declared.stand.Stand.{Stand}
use Rattle.hk_copy.specs.Stands.{HasWidth}
use Rattle.hk_term_tests.proofs.copies.have_widths.Given as goal

abbrev pub invariant-loop-entry : goal.invariant-loop-entry
invariant-loop-entry l = (k : ℕ) (d : ℕ × Stand) → k < l.entry-index → HasWidth (get_or l.stands k d).1
