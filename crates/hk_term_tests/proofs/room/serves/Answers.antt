use Rattle.hk_term_tests.proofs.room.serves.Goals as goal

pub two_values-first-requires-clause-room : goal.two_values-first-requires-clause-room
two_values-first-requires-clause-room c = c.requires.room _

pub two_values-second-requires-clause-room : goal.two_values-second-requires-clause-room
two_values-second-requires-clause-room c = c.in_ok-fit.ensures.grown _ _ c.intern.ensures.grows c.two_values-first.ensures.room

pub two_values-requires-clause-room : goal.two_values-requires-clause-room
two_values-requires-clause-room c = c.begin.ensures.begun _ _ c.two_values-second.ensures.room.size
