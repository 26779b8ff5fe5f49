use Rattle.std.proofs.Common.{sym, ap, ◌∙◌}
use Rattle.ir_ast.specs.View.{view_indices}
use Rattle.ir_layout.specs.Facts.{look_in}
use Rattle.ir_layout.specs.Noting.{note_indices}
use Rattle.ir_layout.proofs.Viewed.{indices_are}
use Rattle.ir_layout.proofs.marks.+values.Goals as goal

pub note_indices-each-init : goal.note_indices-each-init
note_indices-each-init t c =
    ap (λ xs. note_indices (look_in c.args.types.now c.args.facts.now) c.args.marks (view_indices xs)) c.as_slice-items.ensures.value
    ∙ sym (ap (note_indices (look_in c.args.types.now c.args.facts.now) c.args.marks) (indices_are c.args.indices.now))
