use Rattle.spec_read.proofs.TextLaws.{one_spec}
use Rattle.spec_read.proofs.laws.specifications_are_told_apart.Goals as goal

pub returns : goal.returns
returns c = one_spec
