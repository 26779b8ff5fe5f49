use Rattle.std.proofs.Common.{◌≡◌, drop}
use Rattle.ir_ast.specs.ProgramView.{view_typed}
use Rattle.ir_layout.specs.Facts.{look_in}
use Rattle.ir_layout.specs.Noting.{note_typed}
use Rattle.ir_layout.proofs.marks.note_typed.Given as goal

abbrev pub invariant-loop-argument : goal.invariant-loop-argument
invariant-loop-argument l =
    note_typed (look_in l.types l.facts) l.noted (view_typed (drop l.argument-index l.items))
    ≡ note_typed (look_in l.types l.facts) l.fn.marks (view_typed l.arguments.items.items)
