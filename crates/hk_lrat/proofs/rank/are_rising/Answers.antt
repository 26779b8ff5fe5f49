use Rattle.std.proofs.Common.{arith}
use Rattle.hk_lrat.proofs.Ranking.{rising-from}
use Rattle.hk_lrat.proofs.rank.are_rising.Goals as goal

pub returns : goal.returns
returns c = λ t. rising-from c.args.places.now (λ j some lt. c.loop-k.invariant j some (omega (arith, lt, c.loop-k-test.false)))
