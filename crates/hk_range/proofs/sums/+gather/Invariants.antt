use Rattle.hk_range.proofs.sums.+gather.Given as goal

abbrev pub decreases-gather : goal.decreases-gather
decreases-gather l = l.depth
