use Rattle.std.proofs.Common.{◌%◌, ◌*◌, ◌^◌, ap, ◌∙◌}
use Rattle.hk_term.specs.Meaning.{value}
use Rattle.hk_cells.proofs.CutLaws.{only_byte, cut_cell}
use Rattle.hk_cells.proofs.Frames.{followed}
use Rattle.hk_cells.proofs.cut.byte_at.Goals as goal

pub returns-then-cell-eq1-clause-value : goal.returns-then-cell-eq1-clause-value
returns-then-cell-eq1-clause-value c = λ v.
    only_byte c.args.cell (v.entry c.args.array) (value c.args.t.now c.args.place v) _ c.if-cell-eq1.true
    (c.in_ok-whole.ensures.value v ∙ ap (λ k. v.entry c.args.array k % 2 ^ (8 * c.args.cell)) (c.in_ok-index.ensures.value v))

pub returns-in_ok-made-clause-value : goal.returns-in_ok-made-clause-value
returns-in_ok-made-clause-value c = λ v.
    cut_cell c.args.cell (v.entry c.args.array) (value c.args.t.now c.args.place v) _ _ _ _
    (c.in_ok-made.ensures.value v) (c.in_ok-whole.ensures.value v) (c.in_ok-index.ensures.value v)
    ((followed _ _ _ c.cell_at.ensures.frame c.entry.ensures.frame).values c.args.place c.requires.place.0 v)
