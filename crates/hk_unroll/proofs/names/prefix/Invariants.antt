use Rattle.std.proofs.Common.{◌≡◌, replicate}
use Rattle.hk_unroll.proofs.names.prefix.Given as goal

abbrev pub invariant-loop-slash : goal.invariant-loop-slash
invariant-loop-slash l = l.bytes.items ≡ replicate l._slash 47
