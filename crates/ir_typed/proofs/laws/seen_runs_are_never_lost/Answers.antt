use Rattle.ir_typed.proofs.WholeRuns.{seen_ends, seen_run_not_lost}
use Rattle.ir_typed.proofs.laws.seen_runs_are_never_lost.Goals as goal

pub returns-clause-ends : goal.returns-clause-ends
returns-clause-ends c m function arguments memory called e runs call p r = seen_ends m function arguments memory called runs call e p r

pub returns-clause-never : goal.returns-clause-never
returns-clause-never c m function arguments memory called e runs call p r = seen_run_not_lost m function arguments memory called runs call e p r
