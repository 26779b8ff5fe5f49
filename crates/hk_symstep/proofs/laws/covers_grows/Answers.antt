use Rattle.hk_symstep.proofs.Growing.{registers_same, covers_kept}
use Rattle.hk_symstep.proofs.laws.covers_grows.Goals as goal

pub returns-clause-meaning : goal.returns-clause-meaning
returns-clause-meaning c = λ old new file e h v. registers_same old new e v file h

pub returns-clause-covers : goal.returns-clause-covers
returns-clause-covers c = λ old new file e h v rs k. covers_kept old new e v file rs h k
