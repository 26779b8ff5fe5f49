use Rattle.spec_tree.proofs.Entries.{reads_nothing, place_within}
use Rattle.spec_tree.proofs.Keeping.{writes_nothing}
use Rattle.spec_tree.proofs.laws.indices_past_their_sizes_do_nothing.Goals as goal

pub returns-clause-reads : goal.returns-clause-reads
returns-clause-reads c = reads_nothing

pub returns-clause-writes : goal.returns-clause-writes
returns-clause-writes c = writes_nothing

pub returns-clause-within : goal.returns-clause-within
returns-clause-within c = place_within
