use Rattle.ir_ast.specs.ProgramView.{view_module}
use Rattle.spec_tree.specs.View.{view_spec, view_transition}
use Rattle.hk_claims.proofs.Marks.{on_ok, on_err, said, said_cut}
use Rattle.hk_claims.proofs.replaying.replay_case.Goals as goal

pub returns-in-Ok-clause-said : goal.returns-in-Ok-clause-said
returns-in-Ok-clause-said g c =
    said (view_module c.args.handler.now.kernel.now) (view_spec c.args.handler.now.spec.now) (view_transition c.args.handler.now.transition.now) c.args.obligation c.args.case.now c.in_ok-violated.violated _ _
    (c.in_ok-violated.ensures (view_transition c.args.handler.now.transition.now) c.requires.there) (on_ok _ _ c.in-Ok.is c.put_mark.ensures.whole)

pub returns-in-Err-clause-stopped : goal.returns-in-Err-clause-stopped
returns-in-Err-clause-stopped g c = (
  said_cut (view_module c.args.handler.now.kernel.now) (view_spec c.args.handler.now.spec.now) (view_transition c.args.handler.now.transition.now) c.args.obligation c.args.case.now c.in_ok-violated.violated _ _
      (c.in_ok-violated.ensures (view_transition c.args.handler.now.transition.now) c.requires.there) (on_err _ _ c.in-Err.is c.put_mark.ensures.cut),
  on_err _ _ c.in-Err.is c.put_mark.ensures.failed,
)
