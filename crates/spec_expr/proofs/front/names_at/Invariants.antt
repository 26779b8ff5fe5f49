use Rattle.std.proofs.Common.{[], ◌∷◌, ◌++◌}
use Rattle.spec_expr.specs.Fronts.{seen}
use Rattle.spec_expr.specs.Many.{listed_names}
use Rattle.spec_expr.specs.Reading.{name_at}
use Rattle.spec_expr.proofs.Lists.{ListLeft}
use Rattle.spec_expr.proofs.front.names_at.Given as goal

-- the names so far, and those of what is left, are the whole
abbrev pub invariant-more : goal.invariant-more
invariant-more l = ListLeft l.close name_at (λ x ys. x ∷ ys) [] l.most l.counter (λ ys. l.names ++ ys) (seen l.rest) (listed_names l.close (seen l.tokens))
