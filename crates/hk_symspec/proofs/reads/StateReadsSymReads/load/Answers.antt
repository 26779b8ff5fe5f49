use Rattle.hk_symspec.proofs.reads.StateReadsSymReads.load.Goals as goal

pub returns-clause-value : goal.returns-clause-value
returns-clause-value g c = λ h. cc
