use Rattle.std.proofs.Common.{sym, ap, ◌∙◌, map}
use Rattle.ir_ast.specs.View.{view_type}
use Rattle.ir_layout.specs.Facts.{look_in}
use Rattle.ir_layout.specs.Noting.{clear, note_all}
use Rattle.ir_layout.specs.Least.{offer_marks}
use Rattle.ir_layout.proofs.Viewed.{firsts}
use Rattle.ir_layout.proofs.least.least_range.Goals as goal

pub returns : goal.returns
returns c =
    c.offer_marks.ensures
    ∙ ap (offer_marks c.args.least c.args.range.now.line)
    (c.note_numbers.ensures
    ∙ ap (λ k. note_all (look_in c.args.types.now c.args.facts.now) k (map (λ n. view_type n.0) c.args.range.now.numbers.items.items)) c.clear.ensures
    ∙ ap (note_all (look_in c.args.types.now c.args.facts.now) clear) (sym (firsts c.args.range.now.numbers.items.items)))
