use Rattle.std.proofs.Common.{◌<◌, ◌≤◌, length}
use Rattle.hk_cdcl.specs.Analysis.{IsLowest, Closed, IsTracked}
use Rattle.hk_cdcl.proofs.analyze.first_uip.Given as goal

abbrev pub invariant-loop-lowest : goal.invariant-loop-lowest
invariant-loop-lowest l =
    IsLowest l.trail.lits l.below l.seen l.lowest
    × Closed l.clauses.clauses l.trail l.initial.seen l.seen l.place (length l.trail.lits)
    × (l.lowest < l.place)
    × (l.place ≤ length l.trail.lits)
    × (IsTracked l.trail.lits l.below l.initial.seen l.initial.lower.items → IsTracked l.trail.lits l.below l.seen l.lower.items)

abbrev pub decreases-loop-lowest : goal.decreases-loop-lowest
decreases-loop-lowest l = l.place
