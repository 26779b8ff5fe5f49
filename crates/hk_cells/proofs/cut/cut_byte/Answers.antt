use Rattle.std.proofs.Common.{◌/◌, ◌%◌, ◌^◌, ap, ◌∙◌}
use Rattle.hk_term.specs.Meaning.{value}
use Rattle.hk_cells.proofs.CutLaws.{cut_out}
use Rattle.hk_cells.proofs.cut.cut_byte.Goals as goal

pub returns-clause-value : goal.returns-clause-value
returns-clause-value c = λ v.
    cut_out (value c.args.t.now c.args.whole v) (value c.args.t.now c.args.place v % c.args.cell) (value c.amount.new.t c.in_ok-by.by v) (value c.shifted.new.t c.in_ok-cut.cut v) _
    (c.in_ok-by.ensures.value v)
    (c.in_ok-cut.ensures.value v ∙ ap (λ n. n / 2 ^ value c.amount.new.t c.in_ok-by.by v) (c.amount.ensures.frame.values c.args.whole c.requires.whole.0 v))
    (c.in_ok-made.ensures.value v)
