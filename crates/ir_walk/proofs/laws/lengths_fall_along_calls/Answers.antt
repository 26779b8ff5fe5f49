use Rattle.ir_walk.proofs.Weights.{length_falls}
use Rattle.ir_walk.proofs.laws.lengths_fall_along_calls.Goals as goal

pub returns : goal.returns
returns c = length_falls
