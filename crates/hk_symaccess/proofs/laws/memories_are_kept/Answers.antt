use Rattle.hk_symaccess.proofs.Kept.{memory_kept}
use Rattle.hk_symaccess.proofs.laws.memories_are_kept.Goals as goal

pub returns-clause-same : goal.returns-clause-same
returns-clause-same c = λ old new m e o v. memory_kept old new m e o v
