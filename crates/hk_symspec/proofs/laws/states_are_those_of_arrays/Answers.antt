use Rattle.hk_symspec.proofs.FreeLaws.{every_state, these_alone}
use Rattle.hk_symspec.proofs.laws.states_are_those_of_arrays.Goals as goal

pub returns-clause-every : goal.returns-clause-every
returns-clause-every c = every_state

pub returns-clause-alone : goal.returns-clause-alone
returns-clause-alone c = these_alone
