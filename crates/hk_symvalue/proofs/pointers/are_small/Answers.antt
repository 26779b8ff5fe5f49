use Rattle.hk_symvalue.proofs.NumberLaws.{below_wider}
use Rattle.hk_symvalue.proofs.pointers.are_small.Goals as goal

pub returns : goal.returns
returns c = λ v. below_wider _ 64 _ (c.sized-u.ensures.below v) c.sized-u.ensures.is_width.1
