-- What the answer of a call says of the circuit before and after it.
use Rattle.std.proofs.Common.{◌≡◌, ℕ, ◌+◌, ◌<◌, Bool, true, false, ◌&&◌, List, [], ◌∷◌, ◌++◌, length, take, drop, get_or, ℤ, Result, Ok, Err, IfOk, OnOk, OnErr, reverse, refl, sym, ◌∙◌, ap, subst, arith, length-append, add-one}
use Rattle.std.proofs.lemmas.List.{take-append-drop, get_or_append_left}
use Rattle.std.proofs.lemmas.List.FromFn.{length-map-range_with_len, take-map-range_with_len, fill_by_all}
use Rattle.std.specs.declared.alloc.AllocError.{AllocError}
use Rattle.hk_cnf.specs.Literal.{IsWithin, value_at, place_of}
use Rattle.hk_cnf.specs.Clauses.{clauses_value}
use Rattle.hk_cnf.specs.declared.operation.Operation.TheVariants.{True}
use Rattle.hk_cnf.specs.Circuit.{Circuit, Made, made, run, gate_value, variable, all_gate_clauses}
use Rattle.hk_cnf.specs.CircuitParts.{IsCircuit}
use Rattle.hk_cnf.specs.CircuitGrowth.{inputs_of, IsGrown, values_of, Extends}
use Rattle.hk_cnf.proofs.Running.{lit_true-variable, place_of-variable, run-later}
use Rattle.hk_cnf.proofs.CircuitLaws.{IsGrown-refl, IsGrown-fresh, IsWithin-variable, clauses_true-same}
use Rattle.hk_cnf.proofs.CircuitMade.{Lawful, Lawful-made, both}
use Rattle.hk_cnf.specs.Required.{required_of}
use Rattle.hk_cnf.proofs.OwnClauses.{gate_value-own}
use Rattle.hk_cnf.proofs.FrontLaws.{IsFront-grown}
use Rattle.hk_cnf.proofs.RequiredLaws.{required-fresh, required-kept}
use Rattle.hk_cnf.proofs.CircuitValues.{clauses_value-true, gate_value-satisfied, listed, listed-satisfies, holds-satisfied}

-- an assignment that satisfied a circuit extends to one that satisfies it once it is grown
pub Extends-grown : (c d : Circuit) → IsCircuit c → IsCircuit d → IsGrown c d → (a : List Bool) → length a ≡ c.vars → clauses_value a c.clauses ≡ true → (more : List Bool) × Extends d a more
unfolding gate_value
Extends-grown c d hc hd g a n s =
    let v : ℕ → Bool = values_of a in
    let f : ℕ → Bool = run (reverse d.gates) v in
    let whole : List Bool = listed f d.vars in
    let at : (k : ℕ) → k < c.vars → get_or a k false ≡ f k = λ k b.
    let below : IsBelow k = rw (place_of-variable k) b in
    sym (sym (lit_true-variable f k) ∙ (g.values (variable k) below v ∙ (gate_value-satisfied c a hc s (variable k) ∙ value k))) in
    let front : take c.vars whole ≡ a = take-map-range_with_len f 0 d.vars c.vars g.vars ∙ sym (fill_by_all f a c.vars false n at) in
    let joined : a ++ drop c.vars whole ≡ whole = ap (λ x. x ++ drop c.vars whole) (sym front) ∙ take-append-drop c.vars whole in (
      drop c.vars whole,
      record {
        sized = ap length joined ∙ length-map-range_with_len f 0 d.vars;
        satisfies = ap (λ x. clauses_value x d.clauses) joined ∙ listed-satisfies d v hd.within (g.holds_as v ∙ holds-satisfied c a v hc s (λ p b. refl));
      },
    )
  where
    IsBelow : ℕ → Type 0
    IsBelow k = place_of (variable k) < c.vars

    value : (k : ℕ) → value_at a (variable k) ≡ get_or a k false
    value k = rw add-one refl

-- a new variable may have any value
extends-fresh : (c : Circuit) → IsCircuit c → (a : List Bool) → length a ≡ c.vars → clauses_value a c.clauses ≡ true → (b : Bool) → Extends (record c { vars = c.vars + 1 }) a (b ∷ [])
extends-fresh c h a n s b = record {
  sized = length-append a (b ∷ []) ∙ ap (λ k. k + 1) n;
  satisfies = clauses_value-true (a ++ b ∷ []) c.clauses
      ∙ (clauses_true-same (values_of (a ++ b ∷ [])) (values_of a) c.vars c.clauses h.within (λ p k. get_or_append_left a (b ∷ []) false p (omega (arith, k, n)))
      ∙ (sym (clauses_value-true a c.clauses) ∙ s));
}

fresh-value : (c : Circuit) → IsCircuit c → (v : ℕ → Bool) → gate_value (record c { vars = c.vars + 1 }) (variable c.vars) v ≡ v c.vars
unfolding gate_value
fresh-value c h v = lit_true-variable (run (reverse c.gates) v) c.vars ∙ run-later (reverse c.gates) v c.vars c.vars h.in_order (omega arith)

-- the answer of a call that makes a variable
module _ (old new : Circuit) where
  pub grown-fresh : (r : Result ℤ AllocError) → OnOk r (new ≡ record old { vars = old.vars + 1 }) → OnErr r (new ≡ old) → IsGrown old new
  grown-fresh (Ok l) e k = subst (IsGrown old) (sym e) (IsGrown-fresh old)
  grown-fresh (Err x) e k = subst (IsGrown old) (sym k) (IsGrown-refl old)

  pub beside-fresh : (r : Result ℤ AllocError) → OnOk r (new ≡ record old { vars = old.vars + 1 }) → OnErr r (new ≡ old) → required_of new ≡ required_of old
  beside-fresh (Ok l) e k = ap required_of e ∙ required-fresh old
  beside-fresh (Err x) e k = ap required_of k

  pub within-fresh : (r : Result ℤ AllocError) → IsCircuit new → OnOk r (new ≡ record old { vars = old.vars + 1 }) → IfOk r (λ l. l ≡ variable old.vars) → IfOk r (λ l. IsWithin new.vars l)
  within-fresh (Ok l) h e k =
      let n : new.vars ≡ old.vars + 1 = ap (λ c. c.vars) e in
      subst (λ x. IsWithin new.vars x) (sym k) (IsWithin-variable old.vars new.vars (omega (arith, n)) h.few)
  within-fresh (Err x) h e k = tt

  pub value-fresh : (r : Result ℤ AllocError) → IsCircuit old → OnOk r (new ≡ record old { vars = old.vars + 1 }) → IfOk r (λ l. l ≡ variable old.vars) → IfOk r (λ l. (v : ℕ → Bool) → gate_value new l v ≡ v old.vars)
  value-fresh (Ok l) h e k = λ v. ap (λ x. gate_value new x v) k ∙ (ap (λ c. gate_value c (variable old.vars) v) e ∙ fresh-value old h v)
  value-fresh (Err x) h e k = tt

  pub Extends-fresh : (r : Result ℤ AllocError) → IsCircuit old → OnOk r (new ≡ record old { vars = old.vars + 1 })
      → OnOk r ((u : List Bool) → length u ≡ old.vars → clauses_value u old.clauses ≡ true → (b : Bool) → Extends new u (b ∷ []))
  Extends-fresh (Ok l) h e = λ u n s b. subst (λ c. Extends c u (b ∷ [])) (sym e) (extends-fresh old h u n s b)
  Extends-fresh (Err x) h e = tt

-- the truth is a lawful gate
pub constant-law : (c : Circuit) → IsCircuit c → Lawful c (made c True) (λ _. true)
constant-law c h = Lawful-made c True h tt

-- the answer of a call that makes a literal
module _ (old new : Circuit) (m : Made) (f : (ℕ → Bool) → Bool) (law : Lawful old m f) (before : IsCircuit old) (after : IsCircuit new) where
  pub grown : (r : Result ℤ AllocError) → OnOk r (new ≡ m.circuit) → OnErr r (new ≡ old) → IsGrown old new
  grown (Ok l) e k = subst (IsGrown old) (sym e) law.grown
  grown (Err x) e k = subst (IsGrown old) (sym k) (IsGrown-refl old)

  pub inputs : (r : Result ℤ AllocError) → OnOk r (new ≡ m.circuit) → OnErr r (new ≡ old) → inputs_of new ≡ inputs_of old
  inputs (Ok l) e k = ap inputs_of e ∙ law.inputs
  inputs (Err x) e k = ap inputs_of k

  pub beside : (r : Result ℤ AllocError) → OnOk r (new ≡ m.circuit) → OnErr r (new ≡ old) → required_of new ≡ required_of old
  beside r e k = required-kept old new before after (IsFront-grown old new (grown r e k)) (ap (λ i. i.required) (inputs r e k))

  pub within : (r : Result ℤ AllocError) → OnOk r (new ≡ m.circuit) → IfOk r (λ l. l ≡ m.literal) → IfOk r (λ l. IsWithin new.vars l)
  within (Ok l) e k = subst (λ x. IsWithin new.vars x) (sym k) (subst (λ c. IsWithin c.vars m.literal) (sym e) (law.within (subst IsCircuit e after)))
  within (Err x) e k = tt

  pub value : (r : Result ℤ AllocError) → OnOk r (new ≡ m.circuit) → IfOk r (λ l. l ≡ m.literal) → IfOk r (λ l. (v : ℕ → Bool) → gate_value new l v ≡ f v)
  value (Ok l) e k = λ v. ap (λ x. gate_value new x v) k ∙ (ap (λ c. gate_value c m.literal v) e ∙ law.value v)
  value (Err x) e k = tt

pub conjunction : (old new : Circuit) (a b l : ℤ) → IsCircuit new → IsWithin old.vars a → IsWithin old.vars b → IsGrown old new → ((v : ℕ → Bool) → gate_value new l v ≡ both old a b v)
    → (u : List Bool) → clauses_value u (all_gate_clauses new.gates) ≡ true → value_at u l ≡ (value_at u a && value_at u b)
conjunction old new a b l h ha hb g value u s =
    let v : ℕ → Bool = values_of u in
    let x : gate_value old a v ≡ value_at u a = sym (g.values a ha.below v) ∙ gate_value-own new u h s a in
    let y : gate_value old b v ≡ value_at u b = sym (g.values b hb.below v) ∙ gate_value-own new u h s b in
    sym (gate_value-own new u h s l) ∙ (value v ∙ (λ i. x i && y i))

pub conjunction-if : (old new : Circuit) (a b : ℤ) (r : Result ℤ AllocError) → IsCircuit new → IsWithin old.vars a → IsWithin old.vars b → IsGrown old new → IfOk r (λ l. (v : ℕ → Bool) → gate_value new l v ≡ both old a b v)
    → IfOk r (λ l. (u : List Bool) → clauses_value u (all_gate_clauses new.gates) ≡ true → value_at u l ≡ (value_at u a && value_at u b))
conjunction-if old new a b (Ok l) h ha hb g e = conjunction old new a b l h ha hb g e
conjunction-if old new a b (Err x) h ha hb g e = tt
