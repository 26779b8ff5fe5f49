use Rattle.std.proofs.Common.{◌∙◌, sym, ap}
use Rattle.hk_num.specs.Numbers.{bvmul}
use Rattle.hk_num.proofs.Algebra.{mul_commutes}
use Rattle.hk_simplify.proofs.arithmetic.mul_form.Goals as goal

pub commuted-requires-clause-value : goal.commuted-requires-clause-value
commuted-requires-clause-value c = λ m n. ap (λ w. bvmul w n m) (sym c.requires.widths) ∙ mul_commutes _ n m
