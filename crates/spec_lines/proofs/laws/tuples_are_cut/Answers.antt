use Rattle.spec_lines.proofs.Cutting.{tuples_are}
use Rattle.spec_lines.proofs.laws.tuples_are_cut.Goals as goal

pub returns : goal.returns
returns c = tuples_are
