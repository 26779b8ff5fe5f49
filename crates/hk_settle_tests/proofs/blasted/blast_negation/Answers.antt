use Rattle.hk_blast.proofs.LongerLists.{blasted-longer}
use Rattle.hk_settle_tests.proofs.blasted.blast_negation.Goals as goal

pub blast-requires-clause-table : goal.blast-requires-clause-table
blast-requires-clause-table c = blasted-longer c.args.terms.now c.intern.new.self c.args.gates.now c.args.bits.now c.intern.ensures.grows c.requires.table
