use Rattle.ir_kernel.proofs.LoadTypes.{load_gives}
use Rattle.ir_kernel.proofs.laws.loads_are_never_lost.Goals as goal

pub returns : goal.returns
returns c = load_gives
