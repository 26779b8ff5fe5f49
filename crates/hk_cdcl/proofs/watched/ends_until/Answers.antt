use Rattle.std.proofs.Common.{arith}
use Rattle.hk_cdcl.proofs.Attaching.{until}
use Rattle.hk_cdcl.proofs.watched.ends_until.Goals as goal

pub returns-else-bound-ends : goal.returns-else-bound-ends
returns-else-bound-ends c = λ rising. until c.args.ends.now c.loop-count.count c.args.bound rising c.loop-count.invariant (omega arith) (omega arith)
