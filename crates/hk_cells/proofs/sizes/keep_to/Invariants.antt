use Rattle.std.proofs.Common.{◌-◌, ◌+◌, length}
use Rattle.ir_whole.specs.Numbers.{types_of}
use Rattle.hk_cells.specs.Kept.{AreCellsOf}
use Rattle.hk_cells.proofs.sizes.keep_to.Given as goal

abbrev pub invariant-more : goal.invariant-more
invariant-more l = AreCellsOf (types_of l.numbers) l.kept.items

abbrev pub decreases-more : goal.decreases-more
decreases-more l = l.number + 1 - length l.kept.items
