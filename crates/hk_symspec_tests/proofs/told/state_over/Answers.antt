use Rattle.hk_symspec_tests.proofs.told.state_over.Goals as goal

pub of_memory-requires-clause-memory : goal.of_memory-requires-clause-memory
of_memory-requires-clause-memory g c = c.requires.memory c.args.t.now

pub returns-in-First : goal.returns-in-First
returns-in-First g c = c.free.ensures.over c.args.t.now

pub returns-in-Later : goal.returns-in-Later
returns-in-Later g c = c.free_from.ensures.over c.args.t.now
