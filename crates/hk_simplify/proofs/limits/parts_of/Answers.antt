use Rattle.std.proofs.Common.{bit_and, ap}
use Rattle.hk_simplify.proofs.LimitLaws.{parts_whole, high_small}
use Rattle.hk_simplify.proofs.limits.parts_of.Goals as goal

pub returns-clause-whole : goal.returns-clause-whole
returns-clause-whole c = parts_whole c.args.u c.args.n (bit_and c.args.n c.greatest.result) (ap (bit_and c.args.n) c.greatest.ensures)

pub returns-clause-high : goal.returns-clause-high
returns-clause-high c = high_small c.args.u c.args.n c.requires.width.0 c.ranges.n.fits
