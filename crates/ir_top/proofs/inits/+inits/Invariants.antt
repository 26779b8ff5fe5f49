use Rattle.std.proofs.Common.{◌≡◌, ◌+◌, ◌-◌, ◌*◌}
use Rattle.ir_part.specs.Reader.{seen}
use Rattle.ir_part.specs.Many.{many_from, some, with_front, is_closed, behind_comma}
use Rattle.ir_top.specs.Inits.{init_within, pair_at, view_pairs}
use Rattle.ir_top.proofs.inits.+inits.Given as goal

-- a part has fewer in one another; within one number each reader calls the next
abbrev pub decreases-init_within : goal.decreases-init_within
decreases-init_within l = 8 * l.nested

abbrev pub decreases-init_step : goal.decreases-init_step
decreases-init_step l = 8 * l.nested + 7

abbrev pub decreases-init_mark : goal.decreases-init_mark
decreases-init_mark l = 8 * l.nested + 6

abbrev pub decreases-array_at : goal.decreases-array_at
decreases-array_at l = 8 * l.nested + 5

abbrev pub decreases-struct_at : goal.decreases-struct_at
decreases-struct_at l = 8 * l.nested + 5

abbrev pub decreases-packed_at : goal.decreases-packed_at
decreases-packed_at l = 8 * l.nested + 5

abbrev pub decreases-parts_at : goal.decreases-parts_at
decreases-parts_at l = 8 * l.nested + 4

abbrev pub decreases-some_parts : goal.decreases-some_parts
decreases-some_parts l = 8 * l.nested + 3

abbrev pub decreases-pair_at : goal.decreases-pair_at
decreases-pair_at l = 8 * l.nested + 2

-- the parts so far stand before those of what is left
abbrev pub invariant-some_parts-more : goal.invariant-some_parts-more
invariant-some_parts-more l =
    with_front (view_pairs l.parts.items) (many_from (is_closed l.close) (behind_comma (pair_at (init_within l.nested))) (l.most - l.counter) (seen l.rest))
    ≡ some (is_closed l.close) (pair_at (init_within l.nested)) (behind_comma (pair_at (init_within l.nested))) (seen l.tokens)
