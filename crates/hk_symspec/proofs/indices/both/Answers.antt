use Rattle.std.proofs.Common.{◌∙◌}
use Rattle.hk_symspec.proofs.IndexLaws.{both_is}
use Rattle.hk_symspec.proofs.indices.both.Goals as goal

pub returns-clause-value : goal.returns-clause-value
returns-clause-value c = λ v p q a b. c.in_ok-made.ensures.value v ∙ both_is _ _ p q a b
