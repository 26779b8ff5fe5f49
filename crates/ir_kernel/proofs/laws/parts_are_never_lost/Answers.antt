use Rattle.ir_kernel.proofs.StoreTypes.{part_gives}
use Rattle.ir_kernel.proofs.laws.parts_are_never_lost.Goals as goal

pub returns : goal.returns
returns c = part_gives
