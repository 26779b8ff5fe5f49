use Rattle.ir_ast.specs.ProgramView.{view_global, view_module}
use Rattle.ir_check.proofs.ItemLaws.{global_told}
use Rattle.ir_check.proofs.heads.global_fault.Goals as goal

pub returns-clause-least : goal.returns-clause-least
returns-clause-least c = global_told (view_module c.args.kernel.now) (view_global c.args.global.now) c.args.fits c.in_ok-pointers.pointers c.global_reason-reason.result c.on_line.result
    c.requires.fits c.in_ok-pointers.ensures.holds c.global_reason-reason.ensures c.on_line.ensures
