use Rattle.spec_expr.proofs.OneTree.{one_tree}
use Rattle.spec_expr.proofs.laws.expressions_are_told_apart.Goals as goal

pub returns : goal.returns
returns c = one_tree
