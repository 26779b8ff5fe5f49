use Rattle.std.proofs.Common.{take}
use Rattle.spec_lines.specs.Times.{AreTallied}
use Rattle.spec_lines.proofs.equated.times_of.Given as goal

abbrev pub invariant-each : goal.invariant-each
invariant-each l = AreTallied l.times.items (take l.place-index l.places)
