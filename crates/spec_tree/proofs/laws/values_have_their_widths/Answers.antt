use Rattle.spec_tree.proofs.Widths.{value_below}
use Rattle.spec_tree.proofs.Keeping.{variables_fit, locals_fit}
use Rattle.spec_tree.proofs.laws.values_have_their_widths.Goals as goal

pub returns-clause-below : goal.returns-clause-below
returns-clause-below c = value_below

pub returns-clause-variables : goal.returns-clause-variables
returns-clause-variables c = variables_fit

pub returns-clause-locals : goal.returns-clause-locals
returns-clause-locals c = locals_fit
