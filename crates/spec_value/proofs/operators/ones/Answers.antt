use Rattle.hk_num.proofs.Words.{ones}
use Rattle.spec_value.proofs.operators.ones.Goals as goal

pub returns : goal.returns
returns c = ones c.args.w c.requires.within
