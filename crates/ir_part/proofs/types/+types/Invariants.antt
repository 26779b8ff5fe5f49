use Rattle.std.proofs.Common.{◌≡◌, ◌+◌, ◌-◌, ◌*◌, map}
use Rattle.ir_ast.specs.View.{view_type}
use Rattle.ir_part.specs.Reader.{seen}
use Rattle.ir_part.specs.Many.{many_from, some, with_front, is_closed, behind_comma}
use Rattle.ir_part.specs.Types.{type_within}
use Rattle.ir_part.proofs.types.+types.Given as goal

-- a part has a smaller depth; within one depth each reader calls the next
abbrev pub decreases-type_within : goal.decreases-type_within
decreases-type_within l = 8 * l.depth

abbrev pub decreases-type_step : goal.decreases-type_step
decreases-type_step l = 8 * l.depth + 7

abbrev pub decreases-type_mark : goal.decreases-type_mark
decreases-type_mark l = 8 * l.depth + 6

abbrev pub decreases-array_at : goal.decreases-array_at
decreases-array_at l = 8 * l.depth + 5

abbrev pub decreases-struct_at : goal.decreases-struct_at
decreases-struct_at l = 8 * l.depth + 5

abbrev pub decreases-packed_at : goal.decreases-packed_at
decreases-packed_at l = 8 * l.depth + 5

abbrev pub decreases-parts_at : goal.decreases-parts_at
decreases-parts_at l = 8 * l.depth + 4

abbrev pub decreases-some_parts : goal.decreases-some_parts
decreases-some_parts l = 8 * l.depth + 3

-- the parts so far stand before those of what is left
abbrev pub invariant-some_parts-more : goal.invariant-some_parts-more
invariant-some_parts-more l =
    with_front (map view_type l.parts.items) (many_from (is_closed 125) (behind_comma (type_within l.depth)) (l.most - l.counter) (seen l.rest))
    ≡ some (is_closed 125) (type_within l.depth) (behind_comma (type_within l.depth)) (seen l.tokens)
