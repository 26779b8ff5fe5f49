use Rattle.std.proofs.Common.{◌≡◌, length, drop, false}
use Rattle.std.specs.Prelude.{replicate}
use Rattle.spec_kernel.specs.Seen.{kernel_in}
use Rattle.spec_scope.specs.Words.{words}
use Rattle.spec_strays.specs.Places.{with_hooks}
use Rattle.spec_strays.proofs.places.hooked.Given as goal

abbrev pub invariant-each : goal.invariant-each
invariant-each l =
    (length l.flags.items ≡ length l.kernel.functions)
    × (with_hooks (kernel_in l.kernel) l.flags.items (words (drop l.hook-index l.hooks)) ≡ with_hooks (kernel_in l.kernel) (replicate (length (kernel_in l.kernel).functions) false) (words l.hooks))
