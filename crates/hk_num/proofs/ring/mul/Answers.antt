use Rattle.std.proofs.Common.{◌*◌, ◌∙◌}
use Rattle.hk_num.proofs.Words.{cut}
use Rattle.hk_num.proofs.ring.mul.Goals as goal

pub returns : goal.returns
returns c = c.low.ensures ∙ cut (c.args.a * c.args.b) c.args.w c.requires.within
