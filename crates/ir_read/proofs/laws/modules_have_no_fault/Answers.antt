use Rattle.ir_read.proofs.One.{module_or_fault}
use Rattle.ir_read.proofs.laws.modules_have_no_fault.Goals as goal

pub returns : goal.returns
returns c = module_or_fault
