use Rattle.spec_strays.specs.Search.{state_of, IsSearch, left_of}
use Rattle.spec_strays.proofs.search.reached.Given as goal

abbrev pub invariant-more : goal.invariant-more
invariant-more l = IsSearch l.graph l.fn.starts.items (state_of l.search)

abbrev pub decreases-more : goal.decreases-more
decreases-more l = left_of (state_of l.search)
