use Rattle.std.proofs.Common.{◌≡◌, [], drop}
use Rattle.spec_scope.specs.Tests.{are_new}
use Rattle.spec_lines.proofs.faults.are_new.Given as goal

abbrev pub invariant-each : goal.invariant-each
invariant-each l = are_new l.seen (drop l.name-index l.names) ≡ are_new [] l.names
