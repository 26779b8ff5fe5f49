use Rattle.ir_typed.proofs.WholeRuns.{run_ends, run_not_lost, run_gives, run_gives_nothing}
use Rattle.ir_typed.proofs.laws.runs_are_never_lost.Goals as goal

pub returns-clause-ends : goal.returns-clause-ends
returns-clause-ends c m function arguments memory called end runs call r = run_ends m function arguments memory called runs call end r

pub returns-clause-never : goal.returns-clause-never
returns-clause-never c m function arguments memory called end runs call r = run_not_lost m function arguments memory called runs call end r

pub returns-clause-number : goal.returns-clause-number
returns-clause-number c m function arguments memory called w value after runs call same r = run_gives m function arguments memory called runs call w value after same r

pub returns-clause-nothing : goal.returns-clause-nothing
returns-clause-nothing c m function arguments memory called value after runs call same r = run_gives_nothing m function arguments memory called runs call value after same r
