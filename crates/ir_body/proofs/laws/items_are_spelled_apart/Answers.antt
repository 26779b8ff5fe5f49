use Rattle.ir_body.proofs.InnerLaws.{spelled_apart}
use Rattle.ir_body.proofs.laws.items_are_spelled_apart.Goals as goal

pub returns : goal.returns
returns c = spelled_apart
