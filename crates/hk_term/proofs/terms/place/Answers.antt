use Rattle.hk_term.proofs.Insertion.{placed, there}
use Rattle.hk_term.proofs.terms.place.Goals as goal

pub returns-clause-ok : goal.returns-clause-ok
returns-clause-ok c = placed _ _ _ _ _ c.requires c.in_ok-index.ensures.entries c.in_ok-index.ensures.index

pub returns-clause-there : goal.returns-clause-there
returns-clause-there c = there _ _ _ _ c.requires c.in_ok-index.ensures.entries
