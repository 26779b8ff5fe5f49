use Rattle.std.proofs.Common.{arith}
use Rattle.hk_range.proofs.RangeLaws.{and_most}
use Rattle.hk_range.proofs.range.conjunction.Goals as goal

pub returns : goal.returns
returns c = λ a b p q. let h = and_most a b c.args.p.hi c.args.q.hi p.most q.most in record { least = omega arith; most = omega (arith, h.0, h.1) }
