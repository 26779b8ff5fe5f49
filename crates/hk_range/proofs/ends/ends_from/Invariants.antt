use Rattle.std.proofs.Common.{◌+◌, take}
use Rattle.hk_term.specs.Meaning.{Reading}
use Rattle.hk_range.specs.Ranges.{Knows}
use Rattle.hk_range.specs.Linear.{InEnds, left_items, right_items, numbers}
use Rattle.hk_range.proofs.ends.ends_from.Given as goal

abbrev pub invariant-loop-item : goal.invariant-loop-item
invariant-loop-item l = (v : Reading) → Knows l.t l.known v → InEnds l.ends (l.fn.left + left_items (numbers l.t v) (take l.item-index l.items)) (l.fn.right + right_items (numbers l.t v) (take l.item-index l.items))
