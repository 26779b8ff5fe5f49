use Rattle.std.proofs.Common.{◌≡◌, length, drop}
use Rattle.ir_whole.specs.Heads.{fields, RowFits}
use Rattle.ir_whole.specs.Numbers.{types_of}
use Rattle.ir_measure.specs.Measures.{fields_from, no_fields, IsKept}
use Rattle.ir_measure.proofs.measure.fields_of.Given as goal

abbrev pub invariant-each : goal.invariant-each
invariant-each l = record {
  kept : IsKept l.all;
  within : RowFits (length l.measures) (drop l.part-index l.row);
  left : fields_from l.all (fields (types_of l.numbers) (drop l.part-index l.row)) ≡ fields_from no_fields (fields (types_of l.numbers) l.row);
}
