use Rattle.std.proofs.Common.{◌≡◌, ◌+◌, ◌-◌, ◌<◌, ◌≤◌, ◌^◌}
use Rattle.ir_layout.specs.Bytes.{number_at}
use Rattle.ir_layout.proofs.memory.number_in.Given as goal

abbrev pub invariant-loop-left : goal.invariant-loop-left
invariant-loop-left l =
    (l.left ≤ l.bytes) × (l.number ≡ number_at (l.bytes - l.left) (l.offset + l.left) l.items) × (l.number < 256 ^ (l.bytes - l.left))

abbrev pub decreases-loop-left : goal.decreases-loop-left
decreases-loop-left l = l.left
