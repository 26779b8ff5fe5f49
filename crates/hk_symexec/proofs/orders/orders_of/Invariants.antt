use Rattle.ir_ast.specs.ProgramView.{view_module}
use Rattle.hk_symexec.proofs.Starting.{Ordering}
use Rattle.hk_symexec.proofs.orders.orders_of.Given as goal

abbrev pub invariant-loop-place : goal.invariant-loop-place
invariant-loop-place l = Ordering (view_module l.checked) l.place l.orders
