use Rattle.std.proofs.Common.{take}
use Rattle.ir_ast.specs.ProgramView.{view_module, view_instr}
use Rattle.ir_check.specs.Used.{function_in}
use Rattle.ir_check.specs.Rules.{InstrFalls}
use Rattle.ir_check.proofs.InstrLaws.{whole_least, plain_known}
use Rattle.ir_check.proofs.instrs.instr_reason.Goals as goal

pub returns-in_ok-arms-in-None-clause-least : goal.returns-in_ok-arms-in-None-clause-least
returns-in_ok-arms-in-None-clause-least c = λ b there are.
    let least = c.in_ok-plain.ensures.least b there are in
    whole_least (InstrFalls (view_module c.args.context.now.kernel.now) (function_in c.args.context.now.uses.now) b (take c.args.spot.now.place b.instrs) (view_instr c.args.instr.now)) c.in_ok-plain.plain c.in_ok-arms-in-None.arms c.in-None.is least
    (c.in_ok-arms-in-None.ensures.arms b there c.requires.asked.distinct
    (plain_known (view_module c.args.context.now.kernel.now) (function_in c.args.context.now.uses.now) b (take c.args.spot.now.place b.instrs) (view_instr c.args.instr.now) c.in_ok-plain.plain c.in-None.is least))
