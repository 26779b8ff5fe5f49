use Rattle.std.proofs.Common.{◌≡◌, ◌++◌, drop, map}
use Rattle.ir_layout.proofs.layout.bytes_in.Given as goal

abbrev pub invariant-loop-object : goal.invariant-loop-object
invariant-loop-object l = l.bytes.items ++ map (λ o. o.bytes) (drop l.object-index l.objects) ≡ map (λ o. o.bytes) l.objects
