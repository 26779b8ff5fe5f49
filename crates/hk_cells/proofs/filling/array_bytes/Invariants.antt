use Rattle.std.proofs.Common.{◌≡◌}
use Rattle.std.specs.Prelude.{map}
use Rattle.std.specs.List.{range_with_len}
use Rattle.hk_term.specs.Meaning.{reading_of}
use Rattle.hk_symmem.specs.Origins.{cell_byte}
use Rattle.hk_cells.proofs.filling.array_bytes.Given as goal

abbrev pub invariant-loop-index : goal.invariant-loop-index
invariant-loop-index l = l.bytes.items ≡ map (cell_byte l.cell ((reading_of l.v).entry l.object)) (range_with_len 0 l.index)
