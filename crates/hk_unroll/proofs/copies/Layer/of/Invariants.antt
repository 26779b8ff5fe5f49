use Rattle.std.proofs.Common.{◌≡◌, [], replicate}
use Rattle.hk_unroll.proofs.copies.Layer.of.Given as goal

abbrev pub invariant-loop-block : goal.invariant-loop-block
invariant-loop-block l = l.rows.items ≡ replicate l._block []
