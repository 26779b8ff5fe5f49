use Rattle.hk_term.proofs.Prefixes.{empty_table}
use Rattle.hk_term.proofs.terms.Terms.new.Goals as goal

pub invariant_of-result : goal.invariant_of-result
invariant_of-result c = empty_table _ c.new.ensures.empty
