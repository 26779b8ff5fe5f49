use Rattle.hk_bounded.proofs.BoundedLaws.{bounded_stays}
use Rattle.hk_bounded.proofs.laws.ended_runs_stay_so.Goals as goal

pub returns : goal.returns
returns c = bounded_stays
