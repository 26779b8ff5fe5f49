use Rattle.hk_num.proofs.Words.{ones}
use Rattle.hk_copy.proofs.variable.greatest.Goals as goal

pub returns : goal.returns
returns c = ones c.args.width c.requires.1
