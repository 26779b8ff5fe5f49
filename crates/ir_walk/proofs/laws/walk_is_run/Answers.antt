use Rattle.ir_walk.proofs.Runs.{run_is_walk}
use Rattle.ir_walk.proofs.laws.walk_is_run.Goals as goal

pub returns : goal.returns
returns c = run_is_walk
