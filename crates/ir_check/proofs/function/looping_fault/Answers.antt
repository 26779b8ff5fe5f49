use Rattle.ir_ast.specs.ProgramView.{view_module, view_function}
use Rattle.ir_check.proofs.FunctionLaws.{function_there}
use Rattle.ir_check.proofs.PartLaws.{head_alone}
use Rattle.ir_check.proofs.function.looping_fault.Goals as goal

pub returns-clause-least : goal.returns-clause-least
returns-clause-least c =
    head_alone (view_module c.args.kernel.now) c.requires.lined (view_function c.args.function.now)
    (function_there (view_module c.args.kernel.now) c.args.place c.args.function.now.name (view_function c.args.function.now) c.requires.stands) c.requires.looping c.in_ok-fault.fault c.in_ok-fault.ensures.least
