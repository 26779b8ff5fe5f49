use Rattle.std.proofs.Common.{ℕ, ◌<◌, [], slice_index_or}
use Rattle.std.specs.Prelude.{All}
use Rattle.ir_spelled.proofs.running.hold_bytes.Given as goal

abbrev pub invariant-each : goal.invariant-each
invariant-each l = (j : ℕ) → j < l.k → All (λ b. b < 256) (slice_index_or l.memory j [])
