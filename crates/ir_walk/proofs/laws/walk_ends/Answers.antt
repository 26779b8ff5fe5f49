use Rattle.ir_walk.proofs.Done.{walk_has_end}
use Rattle.ir_walk.proofs.laws.walk_ends.Goals as goal

pub returns : goal.returns
returns c = walk_has_end
