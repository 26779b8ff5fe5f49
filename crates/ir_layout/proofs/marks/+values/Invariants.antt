use Rattle.std.proofs.Common.{◌≡◌, drop}
use Rattle.ir_ast.specs.View.{view_indices, view_index_list}
use Rattle.ir_layout.specs.Facts.{look_in}
use Rattle.ir_layout.specs.Noting.{note_indices}
use Rattle.ir_layout.proofs.marks.+values.Given as goal

abbrev pub decreases-note_value : goal.decreases-note_value
decreases-note_value l = goal.size-note_value l

abbrev pub decreases-note_gep : goal.decreases-note_gep
decreases-note_gep l = goal.size-note_gep l

abbrev pub decreases-note_indices : goal.decreases-note_indices
decreases-note_indices l = goal.size-note_indices l

abbrev pub invariant-note_indices-each : goal.invariant-note_indices-each
invariant-note_indices-each l =
    note_indices (look_in l.types l.facts) l.noted (view_indices (drop l.index-index l.items)) ≡ note_indices (look_in l.types l.facts) l.fn.marks (view_index_list l.indices)
