use Rattle.hk_symspec.specs.KeptLaws.{state_over_kept, state_kept}
use Rattle.hk_symspec.proofs.laws.states_stay_as_lists_grow.Goals as goal

pub returns-clause-over : goal.returns-clause-over
returns-clause-over c = state_over_kept

pub returns-clause-same : goal.returns-clause-same
returns-clause-same c = state_kept
