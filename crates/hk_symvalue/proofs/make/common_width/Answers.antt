use Rattle.std.proofs.Common.{arith}
use Rattle.hk_symvalue.proofs.NumberLaws.{below_wider}
use Rattle.hk_symvalue.proofs.make.common_width.Goals as goal

pub returns-then-u-w-clause-first : goal.returns-then-u-w-clause-first
returns-then-u-w-clause-first c = λ v. below_wider _ _ _ (c.width_of-u.ensures.holds v) (omega (arith, c.if-u-w.true))

pub returns-else-u-w-clause-second : goal.returns-else-u-w-clause-second
returns-else-u-w-clause-second c = λ v. below_wider _ _ _ (c.width_of-w.ensures.holds v) (omega (arith, c.if-u-w.false))
