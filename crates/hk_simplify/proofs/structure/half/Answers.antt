use Rattle.hk_simplify.proofs.PartLaws.{lower_bits, upper_bits}
use Rattle.hk_simplify.proofs.structure.half.Goals as goal

pub returns-then-u-low-clause-value : goal.returns-then-u-low-clause-value
returns-then-u-low-clause-value c =
    rw (← c.sized-u.ensures.width) (λ v. upper_bits c.args.to c.args.low c.sized-u.result _ _ c.if-u-low.true (c.sized-u.ensures.below v))

pub returns-then-low-to-clause-value : goal.returns-then-low-to-clause-value
returns-then-low-to-clause-value c =
    rw (← c.sized-u.ensures.width) (λ v. lower_bits c.args.to c.args.low c.sized-u.result _ _ c.if-low-to.true (c.sized-u.ensures.below v))
