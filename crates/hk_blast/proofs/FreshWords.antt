-- Circuits with so many fresh variables more.
use Rattle.std.proofs.Common.{◌≡◌, ℕ, zero, suc, ◌+◌, ◌-◌, ◌*◌, ◌≤◌, Bool, List, [], ◌∷◌, ◌++◌, length, reverse, ℤ, refl, ◌∙◌, ap, arith}
use Rattle.std.proofs.lemmas.List.{length-reverse}
use Rattle.hk_cnf.specs.Circuit.{Gate, Circuit, gate_value, variable, run}
use Rattle.hk_cnf.specs.CircuitParts.{IsCircuit, InOrder}
use Rattle.hk_cnf.specs.CircuitGrowth.{inputs_of}
use Rattle.hk_cnf.proofs.Running.{lit_true-variable, run-later}
use Rattle.hk_circuit.specs.Words.{bit, gate_number}
use Rattle.hk_blast.specs.Blasted.{variables_from}

-- the second circuit is the first with n more variables
pub record IsWidened (c : Circuit) (n : ℕ) (d : Circuit) : Type 0 where
  pub is : d ≡ record c { vars = c.vars + n }
  pub old : IsCircuit c

pub widened-more : (c d e : Circuit) (n : ℕ) → IsWidened c n d → e ≡ record d { vars = d.vars + 1 } → IsWidened c (n + 1) e
widened-more c d e n h k = record { is = k ∙ (ap wider h.is ∙ (λ i. record c { vars = (one c.vars n) i })); old = h.old }
  where
    wider : Circuit → Circuit
    wider x = record x { vars = x.vars + 1 }

    one : (m n : ℕ) → m + n + 1 ≡ m + (n + 1)
    one m n = omega arith

pub widened-same : (c d e : Circuit) (n : ℕ) → IsWidened c n d → e ≡ d → IsWidened c n e
widened-same c d e n h k = record { is = k ∙ h.is; old = h.old }

gates-few : (gs : List Gate) (n : ℕ) → InOrder n gs → length gs ≤ n
gates-few [] n h = omega arith
gates-few (g ∷ gs) n h = omega (arith, gates-few gs g.1.output h.2, h.0)

few : (c : Circuit) → IsCircuit c → length c.gates ≤ c.vars
few c h = omega (arith, gates-few (reverse c.gates) c.vars h.in_order, length-reverse c.gates)

pub widened-vars : (c d : Circuit) (n : ℕ) → IsWidened c n d → d.vars ≡ c.vars + n
widened-vars c d n h = ap (λ x. x.vars) h.is

pub widened-free : (c d : Circuit) (n : ℕ) → IsWidened c n d → (inputs_of d).free ≡ (inputs_of c).free + n
unfolding inputs_of
widened-free c d n h = ap (λ x. x.vars - length x.gates) h.is ∙ more c.vars (length c.gates) n (few c h.old)
  where
    more : (v g n : ℕ) → g ≤ v → v + n - g ≡ v - g + n
    more v g n l = omega (arith, l)

pub widened-required : (c d : Circuit) (n : ℕ) → IsWidened c n d → (inputs_of d).required ≡ (inputs_of c).required
unfolding inputs_of
widened-required c d n h = ap (λ x. (inputs_of x).required) h.is

pub widened-value : (c d : Circuit) (n : ℕ) → IsWidened c n d → (l : ℤ) (v : ℕ → Bool) → gate_value d l v ≡ gate_value c l v
unfolding gate_value
widened-value c d n h l v = ap (λ x. gate_value x l v) h.is

pub widened-number : (c d : Circuit) (n : ℕ) → IsWidened c n d → (ls : List ℤ) → (v : ℕ → Bool) → gate_number d ls v ≡ gate_number c ls v
widened-number c d n h [] v = refl
widened-number c d n h (l ∷ ls) v = λ i. bit (widened-value c d n h l v i) + 2 * widened-number c d n h ls v i

pub widened-chosen : (c d : Circuit) (n p : ℕ) → IsWidened c n d → c.vars ≤ p → (v : ℕ → Bool) → gate_value d (variable p) v ≡ v p
unfolding gate_value
widened-chosen c d n p h b v =
    widened-value c d n h (variable p) v
    ∙ (lit_true-variable (run (reverse c.gates) v) p ∙ run-later (reverse c.gates) v c.vars p h.old.in_order b)

pub variables-more : (start n : ℕ) → variables_from start n ++ variable (start + n) ∷ [] ≡ variables_from start (n + 1)
variables-more start zero = (λ i. variable (same start i) ∷ [])
  where
    same : (n : ℕ) → n + 0 ≡ n
    same n = omega arith
variables-more start (suc n) =
    (λ i. variable start ∷ (ap (λ m. variables_from (suc start) n ++ variable m ∷ []) (shift start n) ∙ variables-more (suc start) n) i)
    ∙ ap (λ m. variables_from start m) (next n)
  where
    shift : (s n : ℕ) → s + suc n ≡ suc s + n
    shift s n = omega arith

    next : (n : ℕ) → suc (n + 1) ≡ suc n + 1
    next n = omega arith
