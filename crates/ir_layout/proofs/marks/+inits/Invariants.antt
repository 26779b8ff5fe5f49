use Rattle.std.proofs.Common.{◌≡◌, drop}
use Rattle.ir_ast.specs.View.{view_inits, view_init_list}
use Rattle.ir_layout.specs.Facts.{look_in}
use Rattle.ir_layout.specs.Noting.{note_inits}
use Rattle.ir_layout.proofs.marks.+inits.Given as goal

abbrev pub decreases-note_init : goal.decreases-note_init
decreases-note_init l = goal.size-note_init l

abbrev pub decreases-note_inits : goal.decreases-note_inits
decreases-note_inits l = goal.size-note_inits l

abbrev pub invariant-note_inits-each : goal.invariant-note_inits-each
invariant-note_inits-each l =
    note_inits (look_in l.types l.facts) l.noted (view_inits (drop l.part-index l.items)) ≡ note_inits (look_in l.types l.facts) l.fn.marks (view_init_list l.parts)
