use Rattle.spec_expr.specs.Fronts.{seen}
use Rattle.spec_read.proofs.SortSteps.{few_rule, gives_by}
use Rattle.spec_read.proofs.sort.few_keys_at.Goals as goal

pub returns : goal.returns
returns c = gives_by _ c.few_sorts_at.result _ _ (few_rule (seen c.args.tokens.now)) c.few_sorts_at.ensures
