-- The literal that is false, and words of one bit.
use Rattle.std.proofs.Common.{◌≡◌, ℕ, Bool, true, false, not, neg_ℤ, [], ◌∷◌, ℤ, ◌∙◌, ap, arith}
use Rattle.hk_cnf.specs.Literal.{IsLiteral}
use Rattle.hk_cnf.specs.Circuit.{Circuit, gate_value}
use Rattle.hk_circuit.specs.Words.{bit, gate_number}
use Rattle.hk_circuit.proofs.Negated.{value_negated}

pub is_false : (c : Circuit) (t b : ℤ) (v : ℕ → Bool) → IsLiteral t → gate_value c t v ≡ true → b ≡ neg_ℤ t → gate_value c b v ≡ false
is_false c t b v h k e = ap (λ l. gate_value c l v) e ∙ (value_negated c t v h ∙ ap not k)

pub single-number : (c : Circuit) (l : ℤ) (v : ℕ → Bool) → gate_number c (l ∷ []) v ≡ bit (gate_value c l v)
single-number c l v = omega arith
