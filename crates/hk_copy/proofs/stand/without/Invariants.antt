use Rattle.std.proofs.Common.{◌≡◌, ◌++◌, drop}
use Rattle.hk_copy.specs.Stands.{without}
use Rattle.hk_copy.proofs.stand.without.Given as goal

abbrev pub invariant-loop-entry : goal.invariant-loop-entry
invariant-loop-entry l = l.kept.items ++ without l.bound (drop l.entry-index l.stands) ≡ without l.bound l.stands
