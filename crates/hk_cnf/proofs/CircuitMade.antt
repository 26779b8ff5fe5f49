-- The literal of an operation, and the conjunction of two literals.
use Rattle.std.proofs.Common.{◌≡◌, ℕ, ◌+◌, ◌<◌, Bool, true, false, not, ◌&&◌, if◌then◌else◌, ℤ, neg_ℤ, int_lt, Option, Some, None, option_map, reverse, refl, sym, ◌∙◌, ap, subst, arith}
use Rattle.std.proofs.lemmas.Bool.Decides.{Decides-int_eq}
use Rattle.std.specs.Ordering.{int_eq}
use Rattle.std.specs.Map.{lookup}
use Rattle.hk_cnf.specs.declared.operation.Operation.{Operation}
use Rattle.hk_cnf.specs.declared.operation.Operation.TheVariants.{True, And}
use Rattle.hk_cnf.specs.declared.operation.Placed.{Placed}
use Rattle.hk_cnf.specs.Literal.{IsLiteral, IsWithin}
use Rattle.hk_cnf.specs.Circuit.{Circuit, Made, lit_true, operation_true, run, gate_value, variable, AreOperands, same_operation, literal_of, truth_of, made, made_at, and_of, simple, simple_by, simple_with, conjoined, conjoined_at}
use Rattle.hk_cnf.specs.CircuitParts.{IsCircuit}
use Rattle.hk_cnf.specs.CircuitGrowth.{IsGrown, inputs_of}
use Rattle.hk_cnf.proofs.Running.{lit_true-variable, lit_true-neg, Each-forward, Each-below, Each-found, Hold-run}
use Rattle.hk_cnf.proofs.CircuitLaws.{IsGrown-refl, IsGrown-with_gate, inputs-with_gate, IsWithin-variable, IsWithin-neg, value-with_gate}

-- what a lawful step makes of a circuit: what was there stays, and the literal has this value
pub record Lawful (c : Circuit) (m : Made) (f : (ℕ → Bool) → Bool) : Type 0 where
  pub grown : IsGrown c m.circuit
  pub inputs : inputs_of m.circuit ≡ inputs_of c
  pub within : IsCircuit m.circuit → IsWithin m.circuit.vars m.literal
  pub value : (v : ℕ → Bool) → gate_value m.circuit m.literal v ≡ f v

-- a literal of the circuit that has this value already
pub record IsValued (c : Circuit) (l : ℤ) (f : (ℕ → Bool) → Bool) : Type 0 where
  pub within : IsWithin c.vars l
  pub value : (v : ℕ → Bool) → gate_value c l v ≡ f v

Lawful-valued : (c : Circuit) (l : ℤ) (f : (ℕ → Bool) → Bool) → IsValued c l f → Lawful c (record { literal = l; circuit = c }) f
Lawful-valued c l f h = record { grown = IsGrown-refl c; inputs = refl; within = λ _. h.within; value = h.value }

-- the value of an operation over a circuit
abbrev pub value_in : Circuit → Operation → (ℕ → Bool) → Bool
value_in c op v = operation_true (run (reverse c.gates) v) op

some_is : {A : Type 0} (x y : A) → Some x ≡ Some y → x ≡ y
some_is x y e = cc

none_is_not : {A : Type 0} (x : A) → None ≡ Some x → ⊥
none_is_not x e = cc

IsValued-found : (c : Circuit) (op : Operation) (l : ℤ) → IsCircuit c → literal_of c.gates op ≡ Some l → IsValued c l (value_in c op)
unfolding gate_value
IsValued-found c op l h e = pick (lookup (same_operation op) c.gates) refl e
  where
    pick : (r : Option Placed) → lookup (same_operation op) c.gates ≡ r → option_map (λ p. variable p.output) r ≡ Some l → IsValued c l (value_in c op)
    pick None found k = absurd (none_is_not l k)
    pick (Some p) found k =
        let at : variable p.output ≡ l = some_is (variable p.output) l k in
        let below : p.output < c.vars = Each-found (λ g. g.1.output < c.vars) c.gates op p (Each-forward (λ g. g.1.output < c.vars) c.gates (Each-below (reverse c.gates) c.vars c.vars h.in_order (omega arith))) found in
        record {
          within = subst (IsWithin c.vars) at (IsWithin-variable p.output c.vars below h.few);
          value = λ v.
              let w : ℕ → Bool = run (reverse c.gates) v in
              ap (lit_true w) (sym at) ∙ (lit_true-variable w p.output
              ∙ Each-found (λ g. w g.1.output ≡ operation_true w g.0) c.gates op p (Each-forward (λ g. w g.1.output ≡ operation_true w g.0) c.gates (Hold-run (reverse c.gates) v c.vars h.in_order)) found);
        }

pub Lawful-made : (c : Circuit) (op : Operation) → IsCircuit c → AreOperands c.vars op → Lawful c (made c op) (value_in c op)
Lawful-made c op h o = pick (literal_of c.gates op) refl
  where
    pick : (r : Option ℤ) → literal_of c.gates op ≡ r → Lawful c (made_at c op (literal_of c.gates op)) (value_in c op)
    pick (Some l) e = subst (λ r. Lawful c (made_at c op r) (value_in c op)) (sym e) (Lawful-valued c l (value_in c op) (IsValued-found c op l h e))
    pick None e = subst (λ r. Lawful c (made_at c op r) (value_in c op)) (sym e) (record {
      grown = IsGrown-with_gate c op h o;
      inputs = inputs-with_gate c op;
      within = λ k. IsWithin-variable c.vars (c.vars + 1) (omega arith) k.few;
      value = λ v. value-with_gate c op v;
    })

-- the conjunction of two values
abbrev pub both : Circuit → ℤ → ℤ → (ℕ → Bool) → Bool
both c a b v = gate_value c a v && gate_value c b v

and-swap : (x y : Bool) → (x && y) ≡ (y && x)
and-swap true true = refl
and-swap true false = refl
and-swap false true = refl
and-swap false false = refl

pub operands-and_of : (n : ℕ) (a b : ℤ) → IsWithin n a → IsWithin n b → AreOperands n (and_of a b)
operands-and_of n a b h k = pick (int_lt b a)
  where
    pick : (t : Bool) → AreOperands n (if t then And b a else And a b)
    pick true = (k, h)
    pick false = (h, k)

value-and_of : (c : Circuit) (a b : ℤ) (v : ℕ → Bool) → value_in c (and_of a b) v ≡ both c a b v
unfolding gate_value
value-and_of c a b v = pick (int_lt b a)
  where
    pick : (t : Bool) → operation_true (run (reverse c.gates) v) (if t then And b a else And a b) ≡ (lit_true (run (reverse c.gates) v) a && lit_true (run (reverse c.gates) v) b)
    pick true = and-swap (lit_true (run (reverse c.gates) v) b) (lit_true (run (reverse c.gates) v) a)
    pick false = refl

-- where a choice gives a literal, it is one of the two
chosen : (P : ℤ → Type 0) (t : Bool) (x l : ℤ) (rest : Option ℤ) → (t ≡ true → P x) → (rest ≡ Some l → P l) → (if t then Some x else rest) ≡ Some l → P l
chosen P true x l rest h k e = subst P (some_is x l e) (h refl)
chosen P false x l rest h k e = k e

value-neg : (c : Circuit) (l : ℤ) (v : ℕ → Bool) → IsLiteral l → gate_value c (neg_ℤ l) v ≡ not (gate_value c l v)
unfolding gate_value
value-neg c l v h = lit_true-neg (run (reverse c.gates) v) l h.nonzero

same : (x : Bool) → x ≡ (x && x)
same true = refl
same false = refl

contrary : (x y : Bool) → x ≡ not y → false ≡ (x && y)
contrary x true e = ap (λ z. z && true) (sym e)
contrary x false e = ap (λ z. z && false) (sym e)

left_true : (x y : Bool) → x ≡ true → y ≡ (x && y)
left_true x y e = ap (λ z. z && y) (sym e)

right_true : (x y : Bool) → y ≡ true → x ≡ (x && y)
right_true x y e = left_true y x e ∙ and-swap y x

left_false : (x y : Bool) → x ≡ false → x ≡ (x && y)
left_false x y e = e ∙ ap (λ z. z && y) (sym e)

right_false : (x y : Bool) → y ≡ false → y ≡ (x && y)
right_false x y e = left_false y x e ∙ and-swap y x

module _ (c : Circuit) (a b : ℤ) (h : IsCircuit c) (ha : IsWithin c.vars a) (hb : IsWithin c.vars b) where
  IsValued-with : (top l : ℤ) → IsValued c top (λ _. true) → simple_with top a b ≡ Some l → IsValued c l (both c a b)
  IsValued-with top l t e =
      let P : ℤ → Type 0 = λ k. IsValued c k (both c a b) in
      let is : (x y : ℤ) → int_eq x y ≡ true → (v : ℕ → Bool) → gate_value c x v ≡ gate_value c y v = λ x y k v. ap (λ z. gate_value c z v) ((Decides-int_eq x y).0 k) in
      let bottom : (v : ℕ → Bool) → gate_value c (neg_ℤ top) v ≡ false = λ v. value-neg c top v t.within.literal ∙ ap not (t.value v) in
      chosen P (int_eq a top) b l _ (λ k. record { within = hb; value = λ v. left_true (gate_value c a v) (gate_value c b v) (is a top k v ∙ t.value v) })
      (chosen P (int_eq b top) a l _ (λ k. record { within = ha; value = λ v. right_true (gate_value c a v) (gate_value c b v) (is b top k v ∙ t.value v) })
      (chosen P (int_eq a (neg_ℤ b)) (neg_ℤ top) l _ (λ k. record { within = IsWithin-neg c.vars top t.within; value = λ v. bottom v ∙ contrary (gate_value c a v) (gate_value c b v) (is a (neg_ℤ b) k v ∙ value-neg c b v hb.literal) })
      (chosen P (int_eq a (neg_ℤ top)) a l _ (λ k. record { within = ha; value = λ v. left_false (gate_value c a v) (gate_value c b v) (is a (neg_ℤ top) k v ∙ bottom v) })
      (chosen P (int_eq b (neg_ℤ top)) b l None (λ k. record { within = hb; value = λ v. right_false (gate_value c a v) (gate_value c b v) (is b (neg_ℤ top) k v ∙ bottom v) })
      (λ k. absurd (none_is_not l k)))))) e

  IsValued-simple : (l : ℤ) → simple (truth_of c.gates) a b ≡ Some l → IsValued c l (both c a b)
  IsValued-simple l e =
      chosen (λ k. IsValued c k (both c a b)) (int_eq a b) a l _
      (λ k. record { within = ha; value = λ v. same (gate_value c a v) ∙ ap (λ z. gate_value c a v && gate_value c z v) ((Decides-int_eq a b).0 k) })
      (λ k. pick (truth_of c.gates) refl k) e
    where
      pick : (r : Option ℤ) → truth_of c.gates ≡ r → simple_by (truth_of c.gates) a b ≡ Some l → IsValued c l (both c a b)
      pick None t k = absurd (none_is_not l (sym (ap (λ r. simple_by r a b) t) ∙ k))
      pick (Some top) t k = IsValued-with top l (IsValued-found c True top h t) (sym (ap (λ r. simple_by r a b) t) ∙ k)

  pub Lawful-conjoined : Lawful c (conjoined c a b) (both c a b)
  Lawful-conjoined = pick (simple (truth_of c.gates) a b) refl
    where
      pick : (r : Option ℤ) → simple (truth_of c.gates) a b ≡ r → Lawful c (conjoined_at c a b (simple (truth_of c.gates) a b)) (both c a b)
      pick (Some l) e = subst (λ r. Lawful c (conjoined_at c a b r) (both c a b)) (sym e) (Lawful-valued c l (both c a b) (IsValued-simple l e))
      pick None e =
          let m : Lawful c (made c (and_of a b)) (value_in c (and_of a b)) = Lawful-made c (and_of a b) h (operands-and_of c.vars a b ha hb) in
          subst (λ r. Lawful c (conjoined_at c a b r) (both c a b)) (sym e) (record {
            grown = m.grown;
            inputs = m.inputs;
            within = m.within;
            value = λ v. m.value v ∙ value-and_of c a b v;
          })
