use Rattle.std.proofs.Common.{◌<◌, ◌^◌, arith}
use Rattle.hk_range.proofs.RangeLaws.{shr_far}
use Rattle.hk_range.proofs.range.right.Goals as goal

pub returns-else-k-lt64 : goal.returns-else-k-lt64
returns-else-k-lt64 c =
    let below : c.args.n < 2 ^ 64 = omega (arith, c.ranges.n) in
    shr_far c.args.n c.args.k below c.if-k-lt64.false
