use Rattle.std.proofs.Common.{◌≤◌, ◌/◌, ◌^◌, arith, sym, subst}
use Rattle.hk_range.proofs.RangeLaws.{shr_least}
use Rattle.hk_range.proofs.range.shifted_right.Goals as goal

pub returns : goal.returns
returns c = λ a b p q.
    let low = shr_least c.args.p.lo c.args.q.hi a b p.least q.most in
    let high = shr_least a b c.args.p.hi c.args.q.lo p.most q.least in
    record { least = omega (arith, low, c.right.ensures); most = omega (arith, high, c.right-2.ensures) }
