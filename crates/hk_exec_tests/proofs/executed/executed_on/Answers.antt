use Rattle.hk_exec_tests.proofs.executed.executed_on.Goals as goal

pub execute-requires-clause-over : goal.execute-requires-clause-over
execute-requires-clause-over g c = c.in_ok-start.ensures.over c.args.terms
