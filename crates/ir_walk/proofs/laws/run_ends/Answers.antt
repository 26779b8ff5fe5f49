use Rattle.ir_walk.proofs.Done.{run_is_end, run_has_end}
use Rattle.ir_walk.proofs.laws.run_ends.Goals as goal

pub returns-clause-walked : goal.returns-clause-walked
returns-clause-walked c = run_is_end

pub returns-clause-finished : goal.returns-clause-finished
returns-clause-finished c = run_has_end
