use Rattle.std.proofs.Common.{◌≡◌, length, drop}
use Rattle.ir_whole.specs.Heads.{fields, RowFits}
use Rattle.ir_whole.specs.Numbers.{types_of}
use Rattle.hk_cells.specs.Kept.{least_from}
use Rattle.hk_cells.proofs.sizes.least_of.Given as goal

abbrev pub invariant-each : goal.invariant-each
invariant-each l = record {
  within : RowFits (length l.kept) (drop l.part-index l.row);
  left : least_from l.least (fields (types_of l.numbers) (drop l.part-index l.row)) ≡ least_from 8 (fields (types_of l.numbers) l.row);
}
