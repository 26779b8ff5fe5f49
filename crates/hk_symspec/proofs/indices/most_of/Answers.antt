use Rattle.hk_num.proofs.Words.{ones}
use Rattle.hk_symspec.proofs.indices.most_of.Goals as goal

pub returns : goal.returns
returns c = ones c.args.w c.requires.within
