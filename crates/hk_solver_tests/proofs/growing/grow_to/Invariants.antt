use Rattle.std.proofs.Common.{◌≡◌}
use Rattle.hk_solver_tests.proofs.growing.grow_to.Given as goal

abbrev pub invariant-loop-i : goal.invariant-loop-i
invariant-loop-i l = (l.solver.list ≡ l.list) × (l.list.vars ≡ l.whole.vars)
