use Rattle.hk_symvalue.proofs.NumberLaws.{high_bit}
use Rattle.hk_symvalue.proofs.words.is_negative.Goals as goal

pub returns-clause-value : goal.returns-clause-value
returns-clause-value c = λ v. high_bit _ _ _ _ c.sized-w.ensures.width c.sized-w.ensures.is_width.0 (c.sized-w.ensures.below v) (c.in_ok-made.ensures.value v)
