use Rattle.hk_num.proofs.Words.{ones}
use Rattle.hk_term_rows.proofs.build.greatest.Goals as goal

pub returns : goal.returns
returns c = ones c.args.w c.requires.1
