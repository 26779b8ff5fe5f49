-- What the table of fields means.
use Rattle.std.specs.Prelude.{ℕ, option_map, List, map}
use Rattle.spec_tree.specs.Sorted as plain
use Rattle.spec_tree.specs.View.{view_key}
use Rattle.spec_scope.specs.Scope.{Declared}
use Rattle.spec_scope.specs.declared.sorts.FieldSort.{FieldSort}
use Rattle.spec_scope.specs.declared.sorts.FieldRow.{FieldRow}
use denote.Ref.{Bor}

abbrev pub view_sort : FieldSort → plain.FieldSort
view_sort f = record { keys = map view_key f.keys; width = f.width }

abbrev pub view_row : Bor (List ℕ) × FieldRow → Declared
view_row e = record { line = e.1.line; name = e.0.now; sort = option_map view_sort e.1.sort }
