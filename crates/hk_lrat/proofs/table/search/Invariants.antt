use Rattle.std.proofs.Common.{◌<◌, ◌≤◌, ◌-◌, length}
use Rattle.std.specs.List.{AllWithin}
use Rattle.hk_lrat.proofs.table.search.Given as goal

abbrev pub invariant-loop-low : goal.invariant-loop-low
invariant-loop-low l =
    (l.high ≤ length l.table)
    × AllWithin (λ e. e.id < l.id) l.table 0 l.low
    × AllWithin (λ e. l.id < e.id) l.table l.high (length l.table)

abbrev pub decreases-loop-low : goal.decreases-loop-low
decreases-loop-low l = l.high - l.low
