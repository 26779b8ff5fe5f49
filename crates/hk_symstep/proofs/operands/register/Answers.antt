use Rattle.hk_symstep.proofs.operands.register.Goals as goal

pub returns-clause-within : goal.returns-clause-within
returns-clause-within c = λ nodes h. c.value_held.ensures.within nodes (c.held.ensures.within nodes h)
