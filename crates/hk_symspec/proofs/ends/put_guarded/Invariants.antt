use Rattle.std.proofs.Common.{◌≡◌, ◌++◌, drop, map}
use Rattle.hk_symspec.specs.Lines.{guarded}
use Rattle.hk_symspec.proofs.ends.put_guarded.Given as goal

abbrev pub invariant-each : goal.invariant-each
invariant-each l = l.made.items ++ map (guarded l.guard) (drop l.write-index l.writes) ≡ l.initial.made.items ++ map (guarded l.guard) l.writes
