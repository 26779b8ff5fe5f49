use Rattle.std.proofs.Common.{◌≡◌, ◌++◌, map, take, drop}
use Rattle.hk_lrat.specs.Raised.{raised_row}
use Rattle.hk_lrat.proofs.log.LratLog.raise.Given as goal

abbrev pub invariant-loop-row : goal.invariant-loop-row
invariant-loop-row l = l.row-items ≡ map (raised_row l.from l.by) (take l.row-index l.initial.row-items) ++ drop l.row-index l.initial.row-items
