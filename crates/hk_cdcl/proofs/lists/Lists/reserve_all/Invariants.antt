use Rattle.std.proofs.Common.{◌≡◌}
use Rattle.hk_cdcl.proofs.lists.Lists.reserve_all.Given as goal

abbrev pub invariant-loop-lit : goal.invariant-loop-lit
invariant-loop-lit l = l.self ≡ l.initial.self
