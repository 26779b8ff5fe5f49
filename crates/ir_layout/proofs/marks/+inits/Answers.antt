use Rattle.std.proofs.Common.{sym, ap, ◌∙◌}
use Rattle.ir_ast.specs.View.{view_inits}
use Rattle.ir_layout.specs.Facts.{look_in}
use Rattle.ir_layout.specs.Noting.{note_inits}
use Rattle.ir_layout.proofs.Viewed.{inits_are}
use Rattle.ir_layout.proofs.marks.+inits.Goals as goal

pub note_inits-each-init : goal.note_inits-each-init
note_inits-each-init t c =
    ap (λ xs. note_inits (look_in c.args.types.now c.args.facts.now) c.args.marks (view_inits xs)) c.as_slice-items.ensures.value
    ∙ sym (ap (note_inits (look_in c.args.types.now c.args.facts.now) c.args.marks) (inits_are c.args.parts.now))
