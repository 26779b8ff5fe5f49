use Rattle.std.proofs.Common.{sym, subst}
use Rattle.ir_ast.specs.ProgramView.{view_module}
use Rattle.ir_ast.specs.declared.module.Module.{Module}
use Rattle.hk_verify.specs.Whole.{IsWhole}
use Rattle.hk_verify.proofs.WholeReading.{whole_of, stopped_at_kernel, stopped_at_text}
use Rattle.hk_verify.proofs.kernel.whole_kernel.Goals as goal

pub returns-in-Ok-new-clause-found : goal.returns-in-Ok-new-clause-found
returns-in-Ok-new-clause-found c =
    subst (λ (m : Module). IsWhole c.args.text.now (view_module m)) (sym c.in-Ok-new.ensures.kernel)
    (whole_of c.args.text.now c.in-Ok.read c.in-Ok.ensures.only c.in-Ok.ensures.found c.in-Ok-new.ensures.laid_out c.in-Ok-new.ensures.well_formed)

pub returns-in-Err-new-clause-fault : goal.returns-in-Err-new-clause-fault
returns-in-Err-new-clause-fault c =
    stopped_at_kernel c.args.text.now c.in-Ok.read c.in-Err-new.stop c.in-Ok.ensures.only c.in-Ok.ensures.only_fault c.in-Ok.ensures.found c.in-Err-new.ensures.refused

pub returns-in-Err-clause-fault : goal.returns-in-Err-clause-fault
returns-in-Err-clause-fault c = stopped_at_text c.args.text.now c.in-Err.stop c.in-Err.ensures.only c.in-Err.ensures.only_fault c.in-Err.ensures.fault
