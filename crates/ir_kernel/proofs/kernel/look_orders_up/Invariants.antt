use Rattle.ir_ast.specs.ProgramView.{view_module}
use Rattle.ir_kernel.specs.Orders.{AreFirstOrdered}
use Rattle.ir_kernel.proofs.kernel.look_orders_up.Given as goal

abbrev pub invariant-loop-place : goal.invariant-loop-place
invariant-loop-place l = AreFirstOrdered (view_module l.checked) l.place
