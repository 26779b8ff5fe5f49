use Rattle.ir_ast.specs.ProgramView.{view_module}
use Rattle.spec_ast.specs.View.{view_lines}
use Rattle.spec_kernel.specs.Seen.{kernel_in}
use Rattle.spec_check.proofs.Ending.{sorted_over, fits_over}
use Rattle.spec_check.proofs.elaboration.elaborate.Goals as goal

pub returns-in-Ok-clause-sorted : goal.returns-in-Ok-clause-sorted
returns-in-Ok-clause-sorted c =
    sorted_over (view_module c.args.checked.now) (kernel_in c.in-Ok.kernel) (view_lines c.as_slice.result.now) c.specified_for.result
    c.elaborated_are_sound.ensures.sorted c.in-Ok.ensures c.specified_for.ensures.widths c.specified_for.ensures.elaborated
    c.specified_for.ensures.within

pub returns-in-Ok-clause-fits : goal.returns-in-Ok-clause-fits
returns-in-Ok-clause-fits c =
    fits_over (view_module c.args.checked.now) (kernel_in c.in-Ok.kernel) (view_lines c.as_slice.result.now) c.specified_for.result
    c.elaborated_are_sound.ensures.fits c.in-Ok.ensures c.specified_for.ensures.elaborated
