use Rattle.hk_num.proofs.Words.{ones}
use Rattle.ir_value.proofs.numbers.greatest.Goals as goal

pub returns : goal.returns
returns c = ones c.args.w c.requires.within
