use Rattle.std.proofs.Common.{subst, IfOk}
use Rattle.ir_ast.specs.ProgramView.{view_module}
use Rattle.ir_ast.specs.declared.module.Module.{Module}
use Rattle.spec_kernel.specs.Fit.{FitsModule}
use Rattle.spec_tree.specs.View.{view_spec}
use Rattle.hk_inputs.proofs.texts.elaborated.Goals as goal

pub returns-clause-fits : goal.returns-clause-fits
returns-clause-fits c = subst (λ (m : Module). IfOk c.elaborate.result (λ spec. FitsModule (view_module m) (view_spec spec))) c.checked.ensures.checked c.elaborate.ensures.fits
