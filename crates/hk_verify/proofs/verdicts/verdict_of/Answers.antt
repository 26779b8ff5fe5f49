use Rattle.ir_ast.specs.ProgramView.{view_module}
use Rattle.spec_tree.specs.View.{view_spec, view_transition}
use Rattle.hk_verify.proofs.Shapes.{can_be_shown, within_at}
use Rattle.hk_verify.proofs.verdicts.verdict_of.Goals as goal

pub decide-requires-clause-there : goal.decide-requires-clause-there
decide-requires-clause-there c = within_at c.args.handler.now.spec.now.transitions c.args.handler.now.place (view_transition c.args.handler.now.transition.now) c.requires.there

pub returns-in-Ok-clause-shown : goal.returns-in-Ok-clause-shown
returns-in-Ok-clause-shown c =
    can_be_shown _ (view_module c.args.handler.now.kernel.now) c.layout-layout.result.now.objects (view_spec c.args.handler.now.spec.now) (view_transition c.args.handler.now.transition.now) c.in-Ok.verdict
    (c.in-Ok.ensures.right c.layout-layout.result.now (view_transition c.args.handler.now.transition.now) c.layout-layout.ensures c.requires.there)
