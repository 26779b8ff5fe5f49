use Rattle.hk_simplify.proofs.PartLaws.{extend_none}
use Rattle.hk_simplify.proofs.structure.sign_extend_form.Goals as goal

pub returns-then-to-w-clause-value : goal.returns-then-to-w-clause-value
returns-then-to-w-clause-value c =
    rw (← c.sized-w.ensures.width) (λ v. extend_none c.sized-w.result c.args.to _ c.if-to-w.true (c.sized-w.ensures.below v))
