use Rattle.ir_read.proofs.One.{fault_is}
use Rattle.ir_read.proofs.laws.faults_are_one.Goals as goal

pub returns : goal.returns
returns c = fault_is
