use Rattle.std.proofs.Common.{subst}
use Rattle.hk_term.specs.Shape.{IsDistinct}
use Rattle.hk_term.proofs.Prefixes.{distinct}
use Rattle.hk_term.proofs.terms.Terms.len.Goals as goal

pub returns-clause-distinct : goal.returns-clause-distinct
returns-clause-distinct c = subst IsDistinct c.self.view_is (distinct _ c.len.ensures.unique)
