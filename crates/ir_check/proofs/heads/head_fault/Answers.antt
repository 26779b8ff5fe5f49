use Rattle.ir_ast.specs.ProgramView.{view_function, view_module}
use Rattle.ir_check.proofs.ItemLaws.{head_told}
use Rattle.ir_check.proofs.heads.head_fault.Goals as goal

pub returns-clause-least : goal.returns-clause-least
returns-clause-least c = head_told (view_module c.args.kernel.now) (view_function c.args.function.now) c.args.place c.in_ok-fits.fits c.args.looping c.flag_at-cyclic.result c.is_long-long.result c.length_at.result
    c.head_reason-reason.result c.on_line.result c.args.calls.now.cyclic.items c.deref.result.now c.args.calls.now.lengths.items c.deref-2.result.now
    c.requires.calls c.requires.stands c.in_ok-fits.ensures.fits c.requires.looping c.deref.ensures.value c.deref-2.ensures.value c.flag_at-cyclic.ensures c.length_at.ensures c.is_long-long.ensures
    c.head_reason-reason.ensures c.on_line.ensures
