use Rattle.std.proofs.Common.{take}
use Rattle.ir_ast.specs.ProgramView.{view_module, view_instr}
use Rattle.ir_typing.specs.Scoped as scoped
use Rattle.ir_check.specs.Used.{function_in}
use Rattle.ir_check.proofs.ItemLaws.{unknown_least}
use Rattle.ir_check.proofs.instrs.plain_reason.Goals as goal

pub returns-else-is_known-clause-least : goal.returns-else-is_known-clause-least
returns-else-is_known-clause-least c = λ b there are.
    unknown_least (view_module c.args.context.now.kernel.now) (function_in c.args.context.now.uses.now) (scoped.function_in c.args.context.now.scope.now) b (take c.args.spot.now.place b.instrs) (view_instr c.args.instr.now) c.is_known.result
    c.is_known.ensures c.requires.asked.scoped_is c.if-is_known.false
