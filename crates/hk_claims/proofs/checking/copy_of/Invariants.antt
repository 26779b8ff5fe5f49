use Rattle.std.proofs.Common.{◌≡◌, take}
use Rattle.hk_claims.proofs.checking.copy_of.Given as goal

abbrev pub invariant-loop-instance : goal.invariant-loop-instance
invariant-loop-instance l = l.copy.items ≡ take l.instance-index l.instance-items
