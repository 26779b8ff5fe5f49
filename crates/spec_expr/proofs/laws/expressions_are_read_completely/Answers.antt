use Rattle.spec_expr.proofs.LevelComplete.{expr_complete}
use Rattle.spec_expr.proofs.laws.expressions_are_read_completely.Goals as goal

pub returns : goal.returns
returns c = λ most n e front rest spelled short free. expr_complete most n e front rest spelled short free
