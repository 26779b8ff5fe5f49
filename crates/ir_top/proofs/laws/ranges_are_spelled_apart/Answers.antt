use Rattle.ir_top.proofs.RangeLaws.{one_range}
use Rattle.ir_top.proofs.laws.ranges_are_spelled_apart.Goals as goal

pub returns : goal.returns
returns c = one_range
