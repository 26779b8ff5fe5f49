use Rattle.ir_kernel.proofs.Links.{run_walks, run_ends}
use Rattle.ir_kernel.proofs.laws.runs_of_kernels_end.Goals as goal

pub returns-clause-walked : goal.returns-clause-walked
returns-clause-walked c = λ m order checked distinct are. run_walks m checked distinct order are

pub returns-clause-finished : goal.returns-clause-finished
returns-clause-finished c = run_ends
