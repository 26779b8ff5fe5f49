use Rattle.spec_kernel.specs.Seen.{kernel_in}
use Rattle.spec_strays.specs.Places.{AreStrayPlaces}
use Rattle.spec_strays.proofs.places.stray_places.Given as goal

abbrev pub invariant-each : goal.invariant-each
invariant-each l = AreStrayPlaces (kernel_in l.kernel) l.hooked l.place l.places.items
