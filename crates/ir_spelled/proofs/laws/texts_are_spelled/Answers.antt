use Rattle.ir_spelled.proofs.Walk.{text_is}
use Rattle.ir_spelled.proofs.laws.texts_are_spelled.Goals as goal

pub returns : goal.returns
returns c = text_is
