use Rattle.hk_unroll.proofs.Reaching.{made_reached, reached_made}
use Rattle.hk_unroll.proofs.laws.copies_are_those_reached.Goals as goal

pub returns-clause-made : goal.returns-clause-made
returns-clause-made c = made_reached

pub returns-clause-reached : goal.returns-clause-reached
returns-clause-reached c = reached_made
