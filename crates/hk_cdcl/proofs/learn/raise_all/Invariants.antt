use Rattle.std.proofs.Common.{◌≡◌}
use Rattle.hk_cdcl.proofs.learn.raise_all.Given as goal

abbrev pub invariant-loop-place : goal.invariant-loop-place
invariant-loop-place l = l.order ≡ l.initial.order
