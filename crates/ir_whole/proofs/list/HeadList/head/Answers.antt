use Rattle.std.proofs.Common.{◌∙◌, ap, sym}
use Rattle.std.specs.Prelude.{slice_get}
use Rattle.ir_whole.proofs.HeadInterning.{head_there, head_fits, head_within}
use Rattle.ir_whole.proofs.list.HeadList.head.Goals as goal

pub returns-clause-is : goal.returns-clause-is
returns-clause-is c =
    head_there c.self.inside.nodes.items c.self.inside.index c.args.self.now c.self.invariant c.self.view_is c.args.number c.node_at.result.now
    (ap (λ l. slice_get l c.args.number) (sym c.as_slice.ensures.value) ∙ c.node_at.ensures)

pub returns-clause-fits : goal.returns-clause-fits
returns-clause-fits c =
    head_fits c.self.inside.nodes.items c.self.inside.index c.args.self.now c.self.invariant c.self.view_is c.args.number c.node_at.result.now
    (ap (λ l. slice_get l c.args.number) (sym c.as_slice.ensures.value) ∙ c.node_at.ensures)

pub returns-clause-within : goal.returns-clause-within
returns-clause-within c =
    head_within c.self.inside.nodes.items c.self.inside.index c.args.self.now c.self.invariant c.self.view_is c.args.number c.node_at.result.now
    (ap (λ l. slice_get l c.args.number) (sym c.as_slice.ensures.value) ∙ c.node_at.ensures)
