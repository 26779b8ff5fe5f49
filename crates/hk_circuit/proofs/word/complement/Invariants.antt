use Rattle.std.proofs.Common.{◌≡◌, take, map, neg_ℤ}
use Rattle.hk_circuit.proofs.word.complement.Given as goal

abbrev pub invariant-loop-lit : goal.invariant-loop-lit
invariant-loop-lit l = l.word.items ≡ map neg_ℤ (take l.lit-index l.a)
