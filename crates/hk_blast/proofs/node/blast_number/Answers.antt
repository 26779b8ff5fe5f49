use Rattle.hk_blast.proofs.node.blast_number.Goals as goal

pub returns-clause-within : goal.returns-clause-within
returns-clause-within c = c.in_ok-word.ensures.within c.args.gates.now.vars c.requires.truth
