use Rattle.hk_symvalue.proofs.RowLaws.{shown_unless}
use Rattle.hk_symvalue.proofs.numbers.sub.Goals as goal

pub returns-clause-row : goal.returns-clause-row
returns-clause-row c = λ v. shown_unless _ _ _ _ (c.in_ok-made.ensures.poison v) (c.in_ok-made.ensures.bits v)
