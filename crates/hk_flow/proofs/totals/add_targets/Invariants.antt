use Rattle.std.proofs.Common.{◌≡◌, drop, min}
use Rattle.hk_flow.specs.Sums.{sum_along}
use Rattle.hk_flow.proofs.totals.add_targets.Given as goal

abbrev pub invariant-loop-target : goal.invariant-loop-target
invariant-loop-target l =
    sum_along l.totals l.top l.total (drop l.target-index l.targets) ≡ sum_along l.totals l.top (min l.own l.top) l.targets
