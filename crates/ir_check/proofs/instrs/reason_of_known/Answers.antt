use Rattle.std.proofs.Common.{take}
use Rattle.ir_ast.specs.ProgramView.{view_module, view_op, view_instr}
use Rattle.ir_typing.specs.Scoped as scoped
use Rattle.ir_check.specs.Used.{function_in}
use Rattle.ir_check.proofs.KnownLaws.{known_sited}
use Rattle.ir_check.proofs.ItemLaws.{known_told}
use Rattle.ir_check.proofs.instrs.reason_of_known.Goals as goal

pub returns-clause-least : goal.returns-clause-least
returns-clause-least c = λ b there are.
    known_told (view_module c.args.context.now.kernel.now) (function_in c.args.context.now.uses.now) (scoped.types_in c.args.context.now.scope.now) (scoped.function_in c.args.context.now.scope.now) b (take c.args.spot.now.place b.instrs) (view_instr c.args.instr.now)
    c.args.spot.now.phis c.in_ok-fits.fits c.in_ok-undefined.undefined c.in_ok-outside.outside c.known_reason.result c.requires.asked c.requires.known are c.in_ok-fits.ensures.fits
    (c.in_ok-undefined.ensures b there (known_sited (function_in c.args.context.now.uses.now) c.requires.asked.distinct (view_module c.args.context.now.kernel.now) (view_op c.args.instr.now.op) c.requires.known))
    c.in_ok-outside.ensures.access c.known_reason.ensures
