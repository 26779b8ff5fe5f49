use Rattle.std.proofs.Common.{◌≡◌, sym, ◌∙◌, ap}
use Rattle.std.proofs.lemmas.Result.{IfOk-weaker}
use Rattle.ir_ast.specs.ProgramView.{view_module, view_op}
use Rattle.ir_typing.specs.Fits.{further}
use Rattle.ir_typing.specs.Scoped.{function_in, types_in}
use Rattle.ir_typing.proofs.fitting.further_fits.Goals as goal

pub returns-in-Switch-clause-fits : goal.returns-in-Switch-clause-fits
returns-in-Switch-clause-fits c = IfOk-weaker c.cases_fit.result _
    (λ r. r ≡ further (types_in c.args.scope.now) (view_module c.args.module.now) (function_in c.args.scope.now) c.args.phis c.args.named (view_op c.args.op.now))
    (λ r h. h ∙ sym (ap (λ op. further (types_in c.args.scope.now) (view_module c.args.module.now) (function_in c.args.scope.now) c.args.phis c.args.named (view_op op)) c.in-Switch.is))
    c.cases_fit.ensures
