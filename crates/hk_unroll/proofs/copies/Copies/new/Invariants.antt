use Rattle.std.proofs.Common.{◌≡◌, [], replicate, length}
use Rattle.hk_unroll.proofs.copies.Copies.new.Given as goal

abbrev pub invariant-loop-turns : goal.invariant-loop-turns
invariant-loop-turns l = l.layers.items ≡ replicate l._turns (replicate (length l.graph) [])
