use Rattle.hk_symexpr.proofs.conditions.+look.Given as goal

abbrev pub decreases-look : goal.decreases-look
decreases-look l = l.condition
