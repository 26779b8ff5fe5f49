use Rattle.ir_ast.specs.ProgramView.{view_module}
use Rattle.spec_tree.specs.View.{view_spec, view_transition}
use Rattle.hk_claims.proofs.Keeps.{adds, adds_cut}
use Rattle.hk_claims.proofs.Marks.{if_ok, on_ok, on_err}
use Rattle.hk_claims.proofs.checking.check_acceptance.Goals as goal

pub returns-in-Ok-put-clause-added : goal.returns-in-Ok-put-clause-added
returns-in-Ok-put-clause-added g c =
    adds (view_module c.args.handler.now.kernel.now) (view_spec c.args.handler.now.spec.now) (view_transition c.args.handler.now.transition.now) c.args.at c.args.proofs.now c.in-Ok.kept _ _ _ _
    (if_ok _ _ _ c.in-Ok.is (c.check_one.ensures.kept (view_transition c.args.handler.now.transition.now) c.requires.there)) c.push_reserved.ensures.items (on_ok _ _ c.in-Ok-put.is c.put_kept-put.ensures.whole)

pub returns-in-Err-put-clause-stopped : goal.returns-in-Err-put-clause-stopped
returns-in-Err-put-clause-stopped g c = (
  adds_cut (view_module c.args.handler.now.kernel.now) (view_spec c.args.handler.now.spec.now) (view_transition c.args.handler.now.transition.now) c.args.at c.args.proofs.now c.in-Ok.kept _ _ _ _
      (if_ok _ _ _ c.in-Ok.is (c.check_one.ensures.kept (view_transition c.args.handler.now.transition.now) c.requires.there)) c.push_reserved.ensures.items (on_err _ _ c.in-Err-put.is c.put_kept-put.ensures.cut),
  on_err _ _ c.in-Err-put.is c.put_kept-put.ensures.failed,
)
