use Rattle.std.proofs.Common.{◌≡◌, ◌+◌, ◌++◌, drop}
use Rattle.hk_symexpr.specs.Naming.{bounds_from}
use Rattle.hk_symexpr.proofs.quantify.variables.Given as goal

abbrev pub invariant-loop-k : goal.invariant-loop-k
invariant-loop-k l = l.bounds.items ++ bounds_from (l.first + l.k) (drop l.k l.sizes) ≡ bounds_from l.first l.sizes
