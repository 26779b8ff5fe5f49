use Rattle.std.proofs.Common.{[], List, ℤ, sym, ap, subst}
use Rattle.hk_lrat.specs.declared.log.LratRow.TheVariants.{Add}
use Rattle.hk_cdcl.specs.States.{Closes}
use Rattle.hk_cdcl.proofs.search.Search.empty_row.Goals as goal

pub returns-clause-closes : goal.returns-clause-closes
returns-clause-closes c =
    subst (λ (x : List ℤ). Closes c.args.self.now (Add c.in_ok-id.id x c.in_ok-hints.hints)) (sym c.new.ensures)
    (record { hints = c.in_ok-hints.hints; is = ap (λ i. Add i [] c.in_ok-hints.hints) c.in_ok-id.ensures.id; derived = c.in_ok-hints.ensures.derived })
