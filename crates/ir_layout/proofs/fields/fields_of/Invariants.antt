use Rattle.std.proofs.Common.{◌≡◌, ◌++◌, drop, map}
use Rattle.ir_ast.specs.ProgramView.{view_entries, view_type_entry}
use Rattle.ir_layout.specs.Facts.{look_in}
use Rattle.ir_layout.specs.Offsets.{offsets_of}
use Rattle.ir_layout.proofs.fields.fields_of.Given as goal

abbrev pub invariant-loop-place : goal.invariant-loop-place
invariant-loop-place l =
    l.fields.items ++ map (λ e. offsets_of (look_in l.types l.facts) e.1.over) (drop l.place (view_entries view_type_entry l.types))
    ≡ map (λ e. offsets_of (look_in l.types l.facts) e.1.over) (view_entries view_type_entry l.types)
