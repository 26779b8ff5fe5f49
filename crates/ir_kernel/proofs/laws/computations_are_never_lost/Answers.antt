use Rattle.ir_kernel.proofs.StepTypes.{computation_gives}
use Rattle.ir_kernel.proofs.laws.computations_are_never_lost.Goals as goal

pub returns : goal.returns
returns c = computation_gives
