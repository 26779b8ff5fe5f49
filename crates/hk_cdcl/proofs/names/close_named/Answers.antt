use Rattle.std.proofs.Common.{map, List, ℤ, sym, ◌∙◌, ap, subst}
use Rattle.hk_lrat.specs.declared.log.LratRow.TheVariants.{Add}
use Rattle.hk_cdcl.specs.Names.{named}
use Rattle.hk_cdcl.specs.States.{Closes}
use Rattle.hk_cdcl.proofs.Segmenting.{closes-named}
use Rattle.hk_cdcl.proofs.names.close_named.Goals as goal

pub returns-clause-closes : goal.returns-clause-closes
returns-clause-closes c =
    subst (λ (x : List ℤ). Closes c.args.whole.now (Add c.in_ok-id.id x c.in_ok-hints.hints)) (sym c.new.ensures)
    (closes-named c.args.whole.now c.args.part.now c.args.names.now c.args.row.now c.in_ok-id.id c.in_ok-hints.hints c.requires.closes c.requires.names c.in_ok-id.ensures.id
    (c.in_ok-hints.ensures ∙ ap (map (named c.args.names.now)) c.ids_of.ensures))
