-- The values of negated literals, and of the combinations that circuits use.
use Rattle.std.proofs.Common.{◌≡◌, ℕ, zero, suc, Bool, true, false, not, ◌&&◌, ℤ, pos, negsuc, neg_ℤ, refl}
use Rattle.hk_cnf.specs.Literal.{IsLiteral}
use Rattle.hk_cnf.specs.Circuit.{Circuit, gate_value}
use Rattle.hk_circuit.specs.Words.{differ}

pub value_negated : (c : Circuit) (l : ℤ) (v : ℕ → Bool) → IsLiteral l → gate_value c (neg_ℤ l) v ≡ not (gate_value c l v)
unfolding gate_value
value_negated c (pos zero) v h = absurd (h.nonzero refl)
value_negated c (pos (suc n)) v h = refl
value_negated c (negsuc n) v h = back _
  where
    back : (b : Bool) → b ≡ not (not b)
    back true = refl
    back false = refl

pub differ_gates : (x y : Bool) → (not (x && y) && not (not x && not y)) ≡ differ x y
differ_gates true true = refl
differ_gates true false = refl
differ_gates false true = refl
differ_gates false false = refl
