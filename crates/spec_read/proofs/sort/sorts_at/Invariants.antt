use Rattle.std.proofs.Common.{[], ◌∷◌, ◌++◌}
use Rattle.std.specs.Prelude.{codes}
use Rattle.spec_expr.specs.Fronts.{seen}
use Rattle.spec_expr.proofs.Lists.{ListLeft}
use Rattle.spec_read.specs.ItemReading.{sort_at}
use Rattle.spec_read.specs.Sorts.{listed_sorts}
use Rattle.spec_read.proofs.sort.sorts_at.Given as goal

-- the sorts so far, and those of what is left, are the whole
abbrev pub invariant-more : goal.invariant-more
invariant-more l = ListLeft (codes ")") sort_at (λ x ys. x ∷ ys) [] l.most l.counter (λ ys. l.sorts.items ++ ys) (seen l.rest) (listed_sorts (seen l.tokens))
