use Rattle.std.proofs.Common.{◌∙◌}
use Rattle.hk_symvalue.proofs.NumberLaws.{fits_wider}
use Rattle.hk_symvalue.proofs.words.fits.Goals as goal

pub returns-in_ok-always-clause-value : goal.returns-in_ok-always-clause-value
returns-in_ok-always-clause-value c = λ v. c.in_ok-always.ensures.value v ∙ fits_wider _ _ _ c.if-u-w.true (c.sized-u.ensures.below v)
