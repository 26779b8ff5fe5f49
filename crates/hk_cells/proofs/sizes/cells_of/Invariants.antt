use Rattle.std.proofs.Common.{◌≡◌, ◌++◌, drop, map}
use Rattle.ir_ast.specs.ProgramView.{view_entries, view_type_entry, view_global}
use Rattle.ir_type.specs.Whole.{meant}
use Rattle.ir_whole.specs.Numbers.{types_of, IsFor}
use Rattle.hk_cells.specs.Cells.{cell_of}
use Rattle.hk_cells.specs.Kept.{AreCellsOf}
use Rattle.hk_cells.proofs.sizes.cells_of.Given as goal

abbrev pub invariant-loop-place : goal.invariant-loop-place
invariant-loop-place l = record {
  own : IsFor (view_entries view_type_entry l.types) l.numbers;
  kept : AreCellsOf (types_of l.numbers) l.kept.items;
  left : l.cells.items ++ map (λ g. cell_of (meant (view_entries view_type_entry l.types) g.1.over)) (drop l.place (view_entries view_global l.globals))
      ≡ map (λ g. cell_of (meant (view_entries view_type_entry l.types) g.1.over)) (view_entries view_global l.globals);
}
