use Rattle.std.proofs.Common.{◌≡◌, ◌++◌, map, drop}
use Rattle.spec_kernel.specs.Seen.{kernel_in}
use Rattle.spec_check.proofs.spec.sizes_of.Given as goal

abbrev pub invariant-each : goal.invariant-each
invariant-each l = l.sizes.items ++ map (λ g. g.size) (drop l.place (kernel_in l.kernel).globals) ≡ map (λ g. g.size) (kernel_in l.kernel).globals
