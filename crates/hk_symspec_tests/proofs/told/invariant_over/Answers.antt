use Rattle.hk_symspec_tests.proofs.told.invariant_over.Goals as goal

pub invariant_term-requires-clause-memory : goal.invariant_term-requires-clause-memory
invariant_term-requires-clause-memory g c = c.requires.memory c.args.t.now
