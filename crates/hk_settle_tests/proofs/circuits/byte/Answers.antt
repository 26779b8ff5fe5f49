use Rattle.hk_settle_tests.proofs.circuits.byte.Goals as goal

pub returns-clause-within : goal.returns-clause-within
returns-clause-within c = c.in_ok-word.ensures.within c.args.gates.now.vars c.requires
