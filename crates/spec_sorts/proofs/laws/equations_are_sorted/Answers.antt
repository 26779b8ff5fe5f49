use Rattle.spec_sorts.proofs.Equated.{equation_sorted}
use Rattle.spec_sorts.proofs.laws.equations_are_sorted.Goals as goal

pub returns : goal.returns
returns c = equation_sorted
