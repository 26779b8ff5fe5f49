use Rattle.std.proofs.Common.{◌∙◌, ap, sym}
use Rattle.std.specs.Prelude.{slice_get}
use Rattle.ir_whole.proofs.HeadInterning.{facts_there}
use Rattle.ir_whole.proofs.list.HeadList.facts.Goals as goal

pub returns : goal.returns
returns c =
    facts_there c.self.inside.nodes.items c.self.inside.index c.args.self.now c.self.invariant c.self.view_is c.args.number c.node_at.result.now
    (ap (λ l. slice_get l c.args.number) (sym c.as_slice.ensures.value) ∙ c.node_at.ensures)
