use Rattle.std.proofs.Common.{List, ℕ, Some, subst}
use Rattle.std.specs.Prelude.{◌≡◌, slice_get}
use Rattle.ir_ast.specs.declared.module.Module.{Module}
use Rattle.ir_ast.specs.Program.{FunctionView}
use Rattle.ir_ast.specs.ProgramView.{view_module}
use Rattle.ir_check.specs.Checked.{IsForward}
use Rattle.ir_check.proofs.CheckedLaws.{order_told}
use Rattle.ir_check.proofs.checked.Checked.order.Goals as goal

pub returns : goal.returns
returns c =
    subst (λ (m : Module). (e : List ℕ × FunctionView) → slice_get (view_module m).functions c.args.function ≡ Some e → IsForward e.1 c.index.result.now) c.self.view_is
    (λ e there. order_told (view_module c.self.inside.kernel) c.self.inside.orders.items c.self.inside.lengths.items c.self.invariant.1 c.args.function c.index.result.now e c.index.ensures there)
