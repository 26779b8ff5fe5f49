use Rattle.std.proofs.Common.{subst, sym}
use Rattle.hk_symstep.specs.Held.{IsPlace}
use Rattle.hk_symstep.proofs.file.SymFile.new.Goals as goal

pub returns-clause-within : goal.returns-clause-within
returns-clause-within c = λ nodes k. subst (IsPlace nodes) (sym (c.loop.invariant.unset k)) tt
