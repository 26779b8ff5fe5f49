use Rattle.hk_symmem.proofs.Wholes.{power_multiple}
use Rattle.hk_symmem.proofs.multiples.makes_multiples.Goals as goal

pub returns-else-n-lt3 : goal.returns-else-n-lt3
returns-else-n-lt3 c = λ t. power_multiple c.args.n c.args.s c.requires c.if-n-lt3.false
