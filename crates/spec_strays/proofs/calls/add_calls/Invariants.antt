use Rattle.std.proofs.Common.{◌≡◌, length, drop}
use Rattle.spec_kernel.specs.Firsts.{texts}
use Rattle.spec_kernel.specs.Seen.{kernel_in}
use Rattle.spec_strays.specs.Callers.{with_calls}
use Rattle.spec_strays.proofs.calls.add_calls.Given as goal

abbrev pub invariant-each : goal.invariant-each
invariant-each l =
    (length l.callers ≡ length l.kernel.functions)
    × (with_calls (kernel_in l.kernel) l.callers l.caller (texts (drop l.name-index l.names)) ≡ with_calls (kernel_in l.kernel) l.fn.callers l.caller (texts l.names))
