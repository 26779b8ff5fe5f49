use Rattle.std.proofs.Common.{◌∙◌}
use Rattle.spec_read.proofs.Prefixes.{starts_is}
use Rattle.spec_read.proofs.section.begins_with.Goals as goal

pub returns : goal.returns
returns c = c.starts_with.ensures.value ∙ starts_is c.args.name.now c.args.front.now
