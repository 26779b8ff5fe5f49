use Rattle.ir_spelled.proofs.Passed.{never}
use Rattle.ir_spelled.proofs.laws.passed_runs_are_never_lost.Goals as goal

pub returns : goal.returns
returns c = never
