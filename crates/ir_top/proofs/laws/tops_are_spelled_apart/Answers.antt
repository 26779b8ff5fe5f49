use Rattle.ir_top.proofs.TopLaws.{one_top}
use Rattle.ir_top.proofs.laws.tops_are_spelled_apart.Goals as goal

pub returns : goal.returns
returns c = one_top
