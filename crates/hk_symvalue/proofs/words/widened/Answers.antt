use Rattle.std.proofs.Common.{◌∙◌, ◌<◌, ◌^◌, subst}
use Rattle.hk_term.specs.Meaning.{value}
use Rattle.hk_symvalue.proofs.NumberLaws.{wider}
use Rattle.hk_symvalue.proofs.words.widened.Goals as goal

pub returns-clause-value : goal.returns-clause-value
returns-clause-value c = λ v. c.in_ok-made.ensures.value v ∙ wider _ _ _ c.requires.wider (subst (λ u. value c.args.t.now c.args.a v < 2 ^ u) c.sized-u.ensures.width (c.sized-u.ensures.below v))
