use Rattle.std.proofs.Common.{◌≡◌, drop, map}
use Rattle.ir_ast.specs.View.{view_type}
use Rattle.ir_layout.specs.Facts.{look_in}
use Rattle.ir_layout.specs.Noting.{note_all}
use Rattle.ir_layout.proofs.marks.note_numbers.Given as goal

abbrev pub invariant-loop-number : goal.invariant-loop-number
invariant-loop-number l =
    note_all (look_in l.types l.facts) l.noted (map (λ p. view_type p.0) (drop l.number-index l.items))
    ≡ note_all (look_in l.types l.facts) l.fn.marks (map (λ p. view_type p.0) l.numbers.items.items)
