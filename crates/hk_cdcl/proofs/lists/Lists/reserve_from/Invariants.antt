use Rattle.std.proofs.Common.{◌≡◌}
use Rattle.hk_cdcl.proofs.lists.Lists.reserve_from.Given as goal

abbrev pub invariant-loop-place : goal.invariant-loop-place
invariant-loop-place l = l.self ≡ l.initial.self
