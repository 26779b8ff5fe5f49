use Rattle.std.proofs.Common.{◌≡◌, length}
use Rattle.hk_cone.specs.Cones.{AreCopied}
use Rattle.hk_cone.proofs.cone.copied.Given as goal

abbrev pub invariant-each : goal.invariant-each
invariant-each l = (length l.places.items ≡ l.at) × (AreCopied l.terms l.marks l.new l.places.items)
