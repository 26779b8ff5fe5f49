use Rattle.std.proofs.Common.{◌≡◌, ◌<◌, ◌≤◌, ℕ, Option, List, length, drop}
use Rattle.ir_ast.specs.Plain.{Ty}
use Rattle.ir_ast.specs.View.{view_types, view_type_list}
use Rattle.ir_type.specs.Whole.{wholes_by}
use Rattle.ir_whole.specs.declared.head.Head.{Head}
use Rattle.ir_whole.specs.Heads.{types_by, RowFits, Grows}
use Rattle.ir_whole.specs.Numbers.{Looks, AreBelow, fronted}
use Rattle.ir_whole.proofs.numbers.+numbers.Given as goal

abbrev pub decreases-number_in : goal.decreases-number_in
decreases-number_in l = goal.size-number_in l

abbrev pub decreases-row_in : goal.decreases-row_in
decreases-row_in l = goal.size-row_in l

abbrev pub invariant-row_in-each : goal.invariant-row_in-each
invariant-row_in-each l = record {
  longer : length l.initial.heads ≤ length l.heads;
  some : 0 < length l.heads;
  below : AreBelow (length l.heads) l.numbers;
  fits : RowFits (length l.heads) l.row.items;
  grows : (first : List Head) → Grows first l.initial.heads → Grows first l.heads;
  left : (s : List ℕ → Option Ty) → Looks l.types l.numbers (types_by l.initial.heads) s
      → wholes_by s (view_type_list l.parts) ≡ fronted (types_by l.heads) l.row.items (wholes_by s (view_types (drop l.part-index l.items)));
}
