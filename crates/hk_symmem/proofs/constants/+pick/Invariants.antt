use Rattle.hk_symmem.proofs.constants.+pick.Given as goal

abbrev pub decreases-pick : goal.decreases-pick
decreases-pick l = l.level
