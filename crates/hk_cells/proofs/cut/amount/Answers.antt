use Rattle.std.proofs.Common.{◌+◌, ◌*◌, ◌^◌, ◌∙◌}
use Rattle.hk_term.specs.Meaning.{value}
use Rattle.hk_cells.proofs.CutLaws.{eight_times}
use Rattle.hk_cells.proofs.cut.amount.Goals as goal

pub returns-clause-value : goal.returns-clause-value
returns-clause-value c = λ v.
    eight_times (value c.args.t.now c.args.place v) c.args.cell c.shift_of-shift.result _ c.shift_of-shift.ensures.power
    (c.in_ok-made.ensures.value v ∙ c.in_ok-bits.ensures.value v
    ∙ (λ i. (c.number.ensures.frame.values c.in_ok-low.low c.in_ok-low.ensures.word.0 v ∙ c.in_ok-low.ensures.value v) i * 2 ^ c.in_ok-zeros.ensures.word.1 i + c.in_ok-zeros.ensures.value v i))
