use Rattle.hk_bounded.proofs.BoundedLaws.{bounded_is_run}
use Rattle.hk_bounded.proofs.laws.bounded_runs_are_runs.Goals as goal

pub returns : goal.returns
returns c = bounded_is_run
