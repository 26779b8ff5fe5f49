-- A variable that always has the value that is chosen for it is fixed by no gate, and one that no gate fixes has it.
use Rattle.std.proofs.Common.{◌≡◌, ◌≢◌, ◌⊎◌, inl, inr, ℕ, ◌<◌, Bool, true, false, ◌||◌, cond, eqb, List, [], ◌∷◌, reverse, refl, sym, ◌∙◌, ap, arith}
use Rattle.std.proofs.lemmas.Bool.{cases_eq, eq-eqb, ne_eqb}
use Rattle.hk_cnf.specs.Circuit.{Gate, Circuit, run, gate_value, variable, operation_true}
use Rattle.hk_cnf.specs.CircuitParts.{InOrder, IsCircuit}
use Rattle.hk_cnf.specs.Determined.{is_output}
use Rattle.hk_cnf.proofs.Determination.{is_output-reverse, run-other}
use Rattle.hk_cnf.proofs.Running.{lit_true-variable, operation_true-same, with_value-other, run-local}

-- a variable that a gate fixes depends on the variables before it alone
depends : (gs : List Gate) (n p : ℕ) (v w : ℕ → Bool) → InOrder n gs → is_output gs p ≡ true → ((q : ℕ) → q < p → v q ≡ w q) → run gs v p ≡ run gs w p
depends [] n p v w o e same = absurd (bad e)
  where
    bad : false ≡ true → ⊥
    bad k = cc
depends (g ∷ gs) n p v w o e same = pick (cases_eq p g.1.output) (λ k. depends gs g.1.output p v w o.2 k same)
  where
    rest : p ≢ g.1.output → is_output gs p ≡ true
    rest ne = sym (ap (λ b. b || is_output gs p) (ne_eqb p g.1.output ne)) ∙ e

    own : p ≡ g.1.output → operation_true (run gs v) g.0 ≡ operation_true (run gs w) g.0
    own k = operation_true-same (run gs v) (run gs w) g.1.output g.0 o.1
        (λ q b. run-local gs v w g.1.output g.1.output o.2 (omega arith) (λ r l. same r (omega (arith, l, k))) q b)

    pick : (p ≡ g.1.output) ⊎ (p ≢ g.1.output) → (is_output gs p ≡ true → run gs v p ≡ run gs w p) → run (g ∷ gs) v p ≡ run (g ∷ gs) w p
    pick (inl k) go =
        ap (λ t. cond t (operation_true (run gs v) g.0) (run gs v p)) (eq-eqb p g.1.output k)
        ∙ (own k ∙ sym (ap (λ t. cond t (operation_true (run gs w) g.0) (run gs w p)) (eq-eqb p g.1.output k)))
    pick (inr ne) go =
        with_value-other (run gs v) g.1.output (operation_true (run gs v) g.0) p ne
        ∙ (go (rest ne) ∙ sym (with_value-other (run gs w) g.1.output (operation_true (run gs w) g.0) p ne))

pub unfixed : (c : Circuit) (p : ℕ) → IsCircuit c → ((v : ℕ → Bool) → gate_value c (variable p) v ≡ v p) → is_output c.gates p ≡ false
unfolding gate_value
unfixed c p h free = sym (is_output-reverse c.gates p) ∙ pick (is_output (reverse c.gates) p) refl
  where
    low : ℕ → Bool
    low q = false

    high : ℕ → Bool
    high q = eqb q p

    value : (v : ℕ → Bool) → run (reverse c.gates) v p ≡ v p
    value v = sym (lit_true-variable (run (reverse c.gates) v) p) ∙ free v

    bad : false ≡ true → ⊥
    bad k = cc

    pick : (b : Bool) → is_output (reverse c.gates) p ≡ b → is_output (reverse c.gates) p ≡ false
    pick false e = e
    pick true e =
        let s : run (reverse c.gates) low p ≡ run (reverse c.gates) high p = depends (reverse c.gates) c.vars p low high h.in_order e (λ q b. sym (ne_eqb q p (λ k. absurd (omega (arith, b, k))))) in
        absurd (bad (sym (value low) ∙ (s ∙ (value high ∙ eq-eqb p p refl))))

pub unfixed-value : (c : Circuit) (p : ℕ) → is_output c.gates p ≡ false → (v : ℕ → Bool) → gate_value c (variable p) v ≡ v p
unfolding gate_value
unfixed-value c p e v = lit_true-variable (run (reverse c.gates) v) p ∙ run-other (reverse c.gates) v p (is_output-reverse c.gates p ∙ e)
