use Rattle.ir_part.proofs.SameLaw.{same_is}
use Rattle.ir_part.proofs.laws.same_types_are_equal.Goals as goal

pub returns : goal.returns
returns c = same_is
