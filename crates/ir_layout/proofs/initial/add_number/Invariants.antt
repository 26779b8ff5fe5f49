use Rattle.std.proofs.Common.{◌≡◌, ◌++◌, ◌-◌}
use Rattle.ir_layout.specs.Writing.{signed_bytes}
use Rattle.ir_layout.proofs.initial.add_number.Given as goal

abbrev pub invariant-loop-at : goal.invariant-loop-at
invariant-loop-at l = l.out.items ++ signed_bytes l.below (l.count - l._at) l.rest ≡ l.initial.out.items ++ signed_bytes l.below l.count l.magnitude
