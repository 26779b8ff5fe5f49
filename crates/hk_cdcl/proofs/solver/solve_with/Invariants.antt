use Rattle.std.proofs.Common.{◌+◌, ◌-◌, ◌*◌, length}
use Rattle.hk_cdcl.proofs.Running.{Running}
use Rattle.hk_cdcl.proofs.solver.solve_with.Given as goal

abbrev pub invariant-steps : goal.invariant-steps
invariant-steps g l = Running l.initial.search (g.P.Propagate.fits l.propagate) l.search

abbrev pub decreases-steps : goal.decreases-steps
decreases-steps g l = l.search.left * (l.search.trail.vars + 1) + (l.search.trail.vars - length l.search.trail.lits)
