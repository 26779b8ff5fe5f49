use Rattle.std.proofs.Common.{◌≡◌, sym, ◌∙◌, ap}
use Rattle.std.proofs.lemmas.Result.{IfOk-weaker}
use Rattle.ir_ast.specs.View.{view_type}
use Rattle.ir_ast.specs.ProgramView.{view_op}
use Rattle.ir_type.specs.Whole.{meant}
use Rattle.ir_typing.specs.Fits.{fits, operands_fit}
use Rattle.ir_typing.specs.Scoped.{types_in, scope_in}
use Rattle.ir_typing.proofs.OperandLists.{phi_operands, call_operands}
use Rattle.ir_typing.proofs.operands.operands_fit.Goals as goal

pub returns-in-Phi-clause-fits : goal.returns-in-Phi-clause-fits
returns-in-Phi-clause-fits c = IfOk-weaker c.arms_fit.result _ (λ r. r ≡ operands_fit (scope_in c.args.scope.now) (view_op c.args.op.now))
    (λ r h. h ∙ sym (phi_operands (λ t v. fits (scope_in c.args.scope.now) (meant (types_in c.args.scope.now) t) v) (view_type c.in-Phi.over) c.in-Phi.arms.items.items)
    ∙ sym (ap (λ op. operands_fit (scope_in c.args.scope.now) (view_op op)) c.in-Phi.is))
    c.arms_fit.ensures.fits

pub returns-in-Call-clause-fits : goal.returns-in-Call-clause-fits
returns-in-Call-clause-fits c = IfOk-weaker c.arguments_fit.result _ (λ r. r ≡ operands_fit (scope_in c.args.scope.now) (view_op c.args.op.now))
    (λ r h. h ∙ sym (call_operands (λ t v. fits (scope_in c.args.scope.now) (meant (types_in c.args.scope.now) t) v) c.in-Call.arguments.items.items)
    ∙ sym (ap (λ op. operands_fit (scope_in c.args.scope.now) (view_op op)) c.in-Call.is))
    c.arguments_fit.ensures.fits
