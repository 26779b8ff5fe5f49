use Rattle.std.proofs.Common.{◌≡◌, ◌+◌, ◌-◌}
use Rattle.ir_layout.specs.Bytes.{with_number}
use Rattle.ir_layout.proofs.memory.ObjectBytes.store.Given as goal

abbrev pub invariant-loop-at : goal.invariant-loop-at
invariant-loop-at l =
    with_number (l.bytes - l.at) (l.offset + l.at) l.rest l.self-inside.items.items ≡ with_number l.bytes l.offset l.value l.fn.self
