use Rattle.std.proofs.Common.{arith}
use Rattle.hk_cdcl.proofs.Leveling.{levels-before}
use Rattle.hk_cdcl.proofs.search.levels_before.Goals as goal

pub returns-else-rest-levels-clause-before : goal.returns-else-rest-levels-clause-before
returns-else-rest-levels-clause-before c =
    levels-before c.args.levels.now c.loop-count.count c.args.rest c.requires.rising c.loop-count.invariant.0 (omega arith) (omega arith)
