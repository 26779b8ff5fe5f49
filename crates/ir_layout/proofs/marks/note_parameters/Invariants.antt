use Rattle.std.proofs.Common.{◌≡◌, drop, map}
use Rattle.ir_ast.specs.View.{view_type}
use Rattle.ir_layout.specs.Facts.{look_in}
use Rattle.ir_layout.specs.Noting.{note_all}
use Rattle.ir_layout.proofs.marks.note_parameters.Given as goal

abbrev pub invariant-loop-parameter : goal.invariant-loop-parameter
invariant-loop-parameter l =
    note_all (look_in l.types l.facts) l.noted (map (λ p. view_type p.0) (drop l.parameter-index l.items))
    ≡ note_all (look_in l.types l.facts) l.fn.marks (map (λ p. view_type p.0) l.parameters.items.items)
