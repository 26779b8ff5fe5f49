use Rattle.std.proofs.Common.{sym, subst}
use Rattle.ir_ast.specs.ProgramView.{view_module}
use Rattle.ir_kernel.specs.Passing.{Passes}
use Rattle.ir_kernel.proofs.PassingLaws.{unknown_in, passes_in}
use Rattle.ir_kernel.proofs.passing.pass.Goals as goal

pub returns-in_default : goal.returns-in_default
returns-in_default c = unknown_in c.args.kernel.now c.checked.result.now c.args.name.now c.args.arguments.now c.find.result c.checked.ensures.checked c.find.ensures.found c.in_default.is

pub returns : goal.returns
returns c =
    subst (Passes (view_module c.args.kernel.now) c.args.name.now c.args.arguments.now) (sym c.passed_to.ensures)
    (passes_in c.args.kernel.now c.checked.result.now c.checked-2.result.now c.module-module.result.now c.args.name.now c.args.arguments.now c.find.result c.in-Some.place c.at-function.result.now c.in_ok-why.why
    c.checked.ensures.checked c.checked-2.ensures.checked c.module-module.ensures.kernel c.find.ensures.found c.in-Some.is c.at-function.ensures c.in_ok-why.ensures)
