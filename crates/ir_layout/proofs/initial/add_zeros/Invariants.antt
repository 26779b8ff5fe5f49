use Rattle.std.proofs.Common.{◌≡◌, ◌++◌, ◌-◌}
use Rattle.std.specs.Prelude.{replicate}
use Rattle.ir_layout.proofs.initial.add_zeros.Given as goal

abbrev pub invariant-loop-at : goal.invariant-loop-at
invariant-loop-at l = l.out.items ++ replicate (l.count - l._at) 0 ≡ l.initial.out.items ++ replicate l.count 0
