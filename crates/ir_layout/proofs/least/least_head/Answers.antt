use Rattle.std.proofs.Common.{sym, ap, ◌∙◌, map}
use Rattle.ir_ast.specs.View.{view_type}
use Rattle.ir_layout.specs.Facts.{look_in}
use Rattle.ir_layout.specs.Noting.{clear, note, note_all}
use Rattle.ir_layout.specs.Least.{offer_marks}
use Rattle.ir_layout.proofs.Viewed.{firsts}
use Rattle.ir_layout.proofs.least.least_head.Goals as goal

pub returns : goal.returns
returns c =
    c.offer_marks.ensures
    ∙ ap (offer_marks c.args.least c.args.function.now.line)
    (c.note_parameters.ensures
    ∙ ap (λ k. note_all (look_in c.args.types.now c.args.facts.now) k (map (λ p. view_type p.0) c.args.function.now.parameters.items.items))
    (c.note-own.ensures ∙ ap (λ k. note (look_in c.args.types.now c.args.facts.now) k (view_type c.args.function.now.result)) c.clear.ensures)
    ∙ ap (note_all (look_in c.args.types.now c.args.facts.now) (note (look_in c.args.types.now c.args.facts.now) clear (view_type c.args.function.now.result)))
    (sym (firsts c.args.function.now.parameters.items.items)))
