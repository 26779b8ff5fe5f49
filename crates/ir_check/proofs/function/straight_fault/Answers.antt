use Rattle.std.proofs.Common.{subst}
use Rattle.ir_ast.specs.ProgramView.{view_module, view_function}
use Rattle.ir_check.specs.Least.{IsLeast}
use Rattle.ir_check.specs.Parts.{HeadFaults}
use Rattle.ir_check.proofs.FunctionLaws.{function_there}
use Rattle.ir_check.proofs.PartLaws.{head_first, head_then_body}
use Rattle.ir_check.proofs.function.straight_fault.Goals as goal

pub returns-in-Some-clause-least : goal.returns-in-Some-clause-least
returns-in-Some-clause-least c =
    head_first (view_module c.args.kernel.now) c.requires.lined (view_function c.args.straight.now.function.now)
    (function_there (view_module c.args.kernel.now) c.args.place c.args.straight.now.function.now.name (view_function c.args.straight.now.function.now) c.requires.stands) c.in-Some.fault
    (subst (IsLeast (HeadFaults (view_module c.args.kernel.now) (view_function c.args.straight.now.function.now))) c.in-Some.is c.in_ok-head.ensures.least)

pub returns-in_ok-body-in-None-clause-least : goal.returns-in_ok-body-in-None-clause-least
returns-in_ok-body-in-None-clause-least c =
    head_then_body (view_module c.args.kernel.now) c.requires.lined (view_function c.args.straight.now.function.now)
    (function_there (view_module c.args.kernel.now) c.args.place c.args.straight.now.function.now.name (view_function c.args.straight.now.function.now) c.requires.stands) c.in_ok-body-in-None.body
    (subst (IsLeast (HeadFaults (view_module c.args.kernel.now) (view_function c.args.straight.now.function.now))) c.in-None.is c.in_ok-head.ensures.least) c.in_ok-body-in-None.ensures.least
