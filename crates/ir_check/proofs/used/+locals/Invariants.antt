use Rattle.std.proofs.Common.{◌≡◌, ◌++◌, drop}
use Rattle.std.specs.Prelude.{flat_map}
use Rattle.ir_ast.specs.Table.{names_of}
use Rattle.ir_ast.specs.View.{view_index_list, view_indices}
use Rattle.ir_type.specs.Names.{local_name, index_leaves_of}
use Rattle.ir_check.specs.Graphs.{places_among}
use Rattle.ir_check.proofs.used.+locals.Given as goal

abbrev pub decreases-add_operand : goal.decreases-add_operand
decreases-add_operand l = goal.size-add_operand l

abbrev pub decreases-add_gep : goal.decreases-add_gep
decreases-add_gep l = goal.size-add_gep l

abbrev pub decreases-add_indices : goal.decreases-add_indices
decreases-add_indices l = goal.size-add_indices l

abbrev pub invariant-add_indices-each : goal.invariant-add_indices-each
invariant-add_indices-each l =
    l.places.items ++ places_among (names_of l.sites) (flat_map local_name (index_leaves_of (view_indices (drop l.index-index l.items))))
    ≡ l.initial.places.items ++ places_among (names_of l.sites) (flat_map local_name (index_leaves_of (view_index_list l.indices)))
