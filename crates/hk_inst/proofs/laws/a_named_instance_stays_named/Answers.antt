use Rattle.hk_inst.proofs.LaterNames.{names-later, memory-alone}
use Rattle.hk_inst.proofs.laws.a_named_instance_stays_named.Goals as goal

pub returns-clause-names : goal.returns-clause-names
returns-clause-names c = names-later

pub returns-clause-refused : goal.returns-clause-refused
returns-clause-refused c = memory-alone
