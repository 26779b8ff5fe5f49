use Rattle.std.proofs.Common.{◌≡◌, ◌++◌, map, take, drop}
use Rattle.hk_lrat.specs.Raised.{raised_id}
use Rattle.hk_lrat.proofs.renumber.raise_ids.Given as goal

abbrev pub invariant-loop-id : goal.invariant-loop-id
invariant-loop-id l = l.id-items ≡ map (raised_id l.from l.by) (take l.id-index l.initial.id-items) ++ drop l.id-index l.initial.id-items
