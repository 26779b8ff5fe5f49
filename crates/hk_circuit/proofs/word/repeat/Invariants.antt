use Rattle.std.proofs.Common.{◌≡◌, replicate}
use Rattle.hk_circuit.proofs.word.repeat.Given as goal

abbrev pub invariant-loop-i : goal.invariant-loop-i
invariant-loop-i l = l.word.items ≡ replicate l.i l.lit
