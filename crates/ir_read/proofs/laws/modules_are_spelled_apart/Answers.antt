use Rattle.ir_read.proofs.One.{one_module}
use Rattle.ir_read.proofs.laws.modules_are_spelled_apart.Goals as goal

pub returns : goal.returns
returns c = one_module
