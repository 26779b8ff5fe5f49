use Rattle.spec_read.proofs.TextLaws.{one_fault_only}
use Rattle.spec_read.proofs.laws.faults_are_told_apart.Goals as goal

pub returns : goal.returns
returns c = one_fault_only
