use Rattle.std.proofs.Common.{◌≡◌, ◌++◌, drop}
use Rattle.hk_symspec.proofs.ends.copied_writes.Given as goal

abbrev pub invariant-each : goal.invariant-each
invariant-each l = l.made.items ++ drop l.write-index l.writes ≡ l.writes
