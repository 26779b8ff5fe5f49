use Rattle.std.proofs.Common.{◌≡◌, take}
use Rattle.spec_state.proofs.steps.copy_of.Given as goal

abbrev pub invariant-each : goal.invariant-each
invariant-each l = l.copies.items ≡ take l.entries-index l.fields
