use Rattle.std.proofs.Common.{◌≡◌, drop}
use Rattle.ir_ast.specs.ProgramView.{view_entries, view_type_entry}
use Rattle.ir_layout.specs.Facts.{look_in}
use Rattle.ir_layout.specs.Least.{least_types}
use Rattle.ir_layout.proofs.least.least_types.Given as goal

abbrev pub invariant-loop-place : goal.invariant-loop-place
invariant-loop-place l =
    least_types (look_in l.types l.facts) l.found (drop l.place (view_entries view_type_entry l.types))
    ≡ least_types (look_in l.types l.facts) l.fn.least (view_entries view_type_entry l.types)
