use Rattle.ir_top.proofs.TopLaws.{one_read}
use Rattle.ir_top.proofs.laws.tops_are_read_apart.Goals as goal

pub returns : goal.returns
returns c = one_read
