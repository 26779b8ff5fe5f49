use Rattle.hk_symmem.proofs.StateLaws.{state_is_given}
use Rattle.hk_cells.proofs.cell_reads.CellReadsInitialReads.memory_of.Goals as goal

pub returns-in_err-memory-clause-any : goal.returns-in_err-memory-clause-any
returns-in_err-memory-clause-any c = λ m s. state_is_given _ _ m c.requires s

pub returns-clause-any : goal.returns-clause-any
returns-clause-any c = λ m s. state_is_given _ _ m c.requires s
