use Rattle.std.proofs.Common.{◌≡◌, ◌≤◌, drop}
use Rattle.std.specs.List.{All}
use Rattle.hk_lrat.specs.Marks.{marked}
use Rattle.hk_lrat.specs.Entries.{live_of}
use Rattle.hk_lrat.specs.Log.{follow}
use Rattle.hk_lrat.proofs.hints.hints_reason.Given as goal

abbrev pub invariant-loop-hint : goal.invariant-loop-hint
invariant-loop-hint l =
    (follow (live_of l.lits l.table) (marked l.initial.marks l.row) l.hints ≡ follow (live_of l.lits l.table) (marked l.marks l.row) (drop l.hint-index l.hints))
    × All (λ m. m ≤ l.row) l.marks
