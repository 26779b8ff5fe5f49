use Rattle.std.proofs.Common.{◌-◌, arith}
use Rattle.hk_range.proofs.SumLaws.{merge_law}
use Rattle.hk_range.proofs.sums.merged.Goals as goal

pub returns-clause-sums : goal.returns-clause-sums
returns-clause-sums c = λ n.
    merge_law c.args.item.left c.args.item.right c.args.l c.args.r c.min-both.result (c.in_ok-left.left - c.min-both.result) (c.in_ok-right.right - c.min-both.result) n
    (omega (arith, c.in_ok-left.ensures.1, c.min-both.ensures))
    (omega (arith, c.in_ok-right.ensures.1, c.min-both.ensures))
