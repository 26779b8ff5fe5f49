use Rattle.std.proofs.Common.{◌≡◌, drop}
use Rattle.ir_ast.specs.View.{view_type}
use Rattle.ir_ast.specs.ProgramView.{view_arms}
use Rattle.ir_layout.specs.Facts.{look_in}
use Rattle.ir_layout.specs.Noting.{note_arms, note_values}
use Rattle.ir_layout.proofs.marks.note_arms.Given as goal

abbrev pub invariant-loop-arm : goal.invariant-loop-arm
invariant-loop-arm l =
    note_values (look_in l.types l.facts) l.noted (view_arms (drop l.arm-index l.items))
    ≡ note_arms (look_in l.types l.facts) l.fn.marks (view_type l.over) (view_arms l.arms.items.items)
