use Rattle.hk_verify.proofs.Loading.{only_fails}
use Rattle.hk_verify.proofs.load.load_first.Goals as goal

pub returns-clause-fault : goal.returns-clause-fault
returns-clause-fault g c = only_fails _ _ c.load.result c.load.ensures.fault
