use Rattle.spec_tree.proofs.Keeping.{transition_fits, transition_result}
use Rattle.spec_tree.proofs.laws.transitions_keep_states.Goals as goal

pub returns-clause-state : goal.returns-clause-state
returns-clause-state c = transition_fits

pub returns-clause-result : goal.returns-clause-result
returns-clause-result c = transition_result
