use Rattle.std.proofs.Common.{◌∙◌}
use Rattle.spec_lines.proofs.Prefixes.{starts_is}
use Rattle.spec_lines.proofs.function.begins_with.Goals as goal

pub returns : goal.returns
returns c = c.starts_with.ensures.value ∙ starts_is c.args.name.now c.args.front.now
