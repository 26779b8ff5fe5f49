use Rattle.std.proofs.Common.{◌≡◌, ◌++◌, drop}
use Rattle.ir_ast.specs.View.{view_types, view_type_list}
use Rattle.ir_ast.specs.ProgramView.{view_entries, view_type_entry}
use Rattle.ir_type.specs.Names.{all_names_in}
use Rattle.ir_type.specs.Cycles.{places_of}
use Rattle.ir_type.proofs.names.+places.Given as goal

abbrev pub decreases-add_places : goal.decreases-add_places
decreases-add_places l = goal.size-add_places l

abbrev pub decreases-add_all_places : goal.decreases-add_all_places
decreases-add_all_places l = goal.size-add_all_places l

abbrev pub invariant-add_all_places-each : goal.invariant-add_all_places-each
invariant-add_all_places-each l =
    l.places.items ++ places_of (view_entries view_type_entry l.types) (all_names_in (view_types (drop l.part-index l.items)))
    ≡ l.initial.places.items ++ places_of (view_entries view_type_entry l.types) (all_names_in (view_type_list l.parts))
