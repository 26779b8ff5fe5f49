use Rattle.hk_num.proofs.Words.{ones}
use Rattle.hk_range.proofs.range.greatest.Goals as goal

pub returns : goal.returns
returns c = ones c.args.w c.requires.1
