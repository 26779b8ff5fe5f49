use Rattle.std.proofs.Common.{◌≤◌, ◌-◌, ◌+◌, length}
use Rattle.ir_whole.specs.Numbers.{types_of}
use Rattle.ir_measure.specs.Measures.{AreMeasured}
use Rattle.ir_measure.proofs.shapes.add_measures.Given as goal

abbrev pub invariant-more : goal.invariant-more
invariant-more l = record {
  measured : AreMeasured (types_of l.numbers) l.measures.items;
  longer : length l.initial.measures.items ≤ length l.measures.items;
}

abbrev pub decreases-more : goal.decreases-more
decreases-more l = l.number + 1 - length l.measures.items
