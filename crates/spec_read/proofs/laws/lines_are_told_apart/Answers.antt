use Rattle.spec_read.proofs.ItemComplete.{one_item}
use Rattle.spec_read.proofs.laws.lines_are_told_apart.Goals as goal

pub returns : goal.returns
returns c = one_item
