-- What stays through two steps stays through both.
use Rattle.std.proofs.Common.{◌≡◌, ◌<◌, ◌≤◌, ℕ, Bool, ℤ, refl, ◌∙◌, arith}
use Rattle.hk_cnf.specs.Literal.{place_of}
use Rattle.hk_cnf.specs.Circuit.{Circuit, gate_value}
use Rattle.hk_cnf.specs.CircuitGrowth.{IsGrown, inputs_of}
use Rattle.hk_circuit.specs.Frame.{Frame}
use Rattle.hk_circuit.proofs.WordNumbers.{within_more, words}

pub unchanged : (a : Circuit) → Frame a a
unchanged a = record { vars = omega arith; keeps = λ l b v. refl; grows = λ c g. g; inputs = refl; keeps_words = λ ls w v. refl }

pub followed : {a b c : Circuit} → Frame a b → Frame b c → Frame a c
followed {a} {b} {c} first second = record {
  vars = omega (arith, first.vars, second.vars);
  keeps = λ l below v. second.keeps l (omega (arith, below, first.vars)) v ∙ first.keeps l below v;
  grows = λ d g. second.grows d (first.grows d g);
  inputs = second.inputs ∙ first.inputs;
  keeps_words = λ ls w v. second.keeps_words ls (within_more a.vars b.vars ls first.vars w) v ∙ first.keeps_words ls w v;
}

-- what a gate's own clauses say
pub framed : {a b : Circuit} → a.vars ≤ b.vars → ((l : ℤ) → place_of l < a.vars → (v : ℕ → Bool) → gate_value b l v ≡ gate_value a l v)
    → ((c : Circuit) → IsGrown c a → IsGrown c b) → inputs_of b ≡ inputs_of a → Frame a b
framed {a} {b} vars keeps grows inputs = record { vars = vars; keeps = keeps; grows = grows; inputs = inputs; keeps_words = words a b keeps }
