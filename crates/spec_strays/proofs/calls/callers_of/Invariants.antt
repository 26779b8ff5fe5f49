use Rattle.spec_kernel.specs.Seen.{kernel_in}
use Rattle.spec_strays.specs.Callers.{AreCallers}
use Rattle.spec_strays.proofs.calls.callers_of.Given as goal

abbrev pub invariant-each : goal.invariant-each
invariant-each l = AreCallers (kernel_in l.kernel) l.place l.callers
