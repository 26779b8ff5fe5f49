use Rattle.std.proofs.Common.{subst}
use Rattle.ir_ast.specs.declared.module.Module.{Module}
use Rattle.ir_ast.specs.ProgramView.{view_module}
use Rattle.ir_check.specs.Checked.{IsChecked}
use Rattle.ir_check.proofs.CheckedLaws.{kept_checked}
use Rattle.ir_check.proofs.checked.Checked.module.Goals as goal

pub returns-clause-checked : goal.returns-clause-checked
returns-clause-checked c =
    subst (λ (m : Module). IsChecked (view_module m)) c.self.view_is
    (kept_checked (view_module c.self.inside.kernel) c.self.inside.orders.items c.self.inside.lengths.items c.self.invariant.1)
