use Rattle.std.proofs.Common.{◌∙◌}
use Rattle.hk_num.proofs.Words.{difference}
use Rattle.hk_num.proofs.ring.sub.Goals as goal

pub returns : goal.returns
returns c = c.low.ensures ∙ difference c.args.w c.args.a c.args.b c.requires.within c.requires.second
