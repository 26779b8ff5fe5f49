-- The values of the variables as gates are computed one after another, the newest gate first in the list.
use Rattle.std.proofs.Common.{◌≡◌, ℕ, zero, suc, ◌<◌, ◌≤◌, Bool, true, false, not, ◌&&◌, cond, eqb, List, [], ◌∷◌, ◌++◌, ℤ, pos, negsuc, neg_ℤ, Option, Some, None, reverse, refl, sym, ◌∙◌, ap, subst, arith, add-one}
use Rattle.std.proofs.lemmas.Bool.{eq-eqb, ne_eqb, eqb-true, and_parts, false≢true}
use Rattle.std.proofs.lemmas.Bool.Decides.{Decides-int_eq}
use Rattle.std.proofs.lemmas.List.{reverse-append, reverse-reverse}
use Rattle.std.proofs.lemmas.List.Elements.{All-head, All-tail}
use Rattle.std.specs.List.{All}
use Rattle.std.specs.Ordering.{int_eq}
use Rattle.std.specs.Map.{lookup}
use Rattle.hk_cnf.specs.declared.operation.Operation.{Operation}
use Rattle.hk_cnf.specs.declared.operation.Operation.TheVariants.{True, And}
use Rattle.hk_cnf.specs.declared.operation.Placed.{Placed}
use Rattle.hk_cnf.specs.Literal.{place_of}
use Rattle.hk_cnf.specs.Circuit.{Gate, lit_true, operation_true, with_value, run, variable, AreOperands, same_operation}
use Rattle.hk_cnf.specs.CircuitParts.{InOrder}

pub lit_true-same : (v w : ℕ → Bool) (l : ℤ) → v (place_of l) ≡ w (place_of l) → lit_true v l ≡ lit_true w l
lit_true-same v w (pos zero) e = refl
lit_true-same v w (pos (suc n)) e = e
lit_true-same v w (negsuc n) e = ap not e

pub lit_true-variable : (v : ℕ → Bool) (n : ℕ) → lit_true v (variable n) ≡ v n
lit_true-variable v n = rw add-one refl

pub place_of-variable : (n : ℕ) → place_of (variable n) ≡ n
place_of-variable n = rw add-one refl

pub lit_true-neg : (v : ℕ → Bool) (l : ℤ) → (l ≡ pos 0 → ⊥) → lit_true v (neg_ℤ l) ≡ not (lit_true v l)
lit_true-neg v (pos zero) h = absurd (h refl)
lit_true-neg v (pos (suc n)) h = refl
lit_true-neg v (negsuc n) h = back (v n)
  where
    back : (b : Bool) → b ≡ not (not b)
    back true = refl
    back false = refl

-- values that agree on the operands' variables agree on the operation
pub operation_true-same : (v w : ℕ → Bool) (n : ℕ) (op : Operation) → AreOperands n op → ((p : ℕ) → p < n → v p ≡ w p) → operation_true v op ≡ operation_true w op
operation_true-same v w n True o h = refl
operation_true-same v w n (And a b) o h =
    ap (λ x. x && lit_true v b) (lit_true-same v w a (h (place_of a) o.0.below))
    ∙ ap (λ x. lit_true w a && x) (lit_true-same v w b (h (place_of b) o.1.below))

pub with_value-same : (v : ℕ → Bool) (n : ℕ) (b : Bool) → with_value v n b n ≡ b
with_value-same v n b = ap (λ x. cond x b (v n)) (eq-eqb n n refl)

pub with_value-other : (v : ℕ → Bool) (n : ℕ) (b : Bool) (k : ℕ) → (k ≡ n → ⊥) → with_value v n b k ≡ v k
with_value-other v n b k h = ap (λ x. cond x b (v k)) (ne_eqb k n h)

-- a variable behind all gates has the value that was chosen
pub run-later : (gs : List Gate) (v : ℕ → Bool) (n k : ℕ) → InOrder n gs → n ≤ k → run gs v k ≡ v k
run-later [] v n k o h = refl
run-later (g ∷ gs) v n k o h =
    with_value-other (run gs v) g.1.output (operation_true (run gs v) g.0) k (λ e. absurd (omega (arith, o.0, e)))
    ∙ run-later gs v g.1.output k o.2 (omega (arith, o.0))

-- values chosen alike below a place give values that agree below it
pub run-local : (gs : List Gate) (v w : ℕ → Bool) (n m : ℕ) → InOrder n gs → n ≤ m → ((p : ℕ) → p < m → v p ≡ w p) → (p : ℕ) → p < m → run gs v p ≡ run gs w p
run-local [] v w n m o le h p b = h p b
run-local (g ∷ gs) v w n m o le h p b =
    let below : (q : ℕ) → q < m → run gs v q ≡ run gs w q = run-local gs v w g.1.output m o.2 (omega (arith, o.0)) h in
    let same : operation_true (run gs v) g.0 ≡ operation_true (run gs w) g.0 =
    operation_true-same (run gs v) (run gs w) g.1.output g.0 o.1 (λ q c. below q (omega (arith, o.0))) in
    ap (λ x. cond (eqb p g.1.output) x (run gs v p)) same ∙ ap (λ x. cond (eqb p g.1.output) (operation_true (run gs w) g.0) x) (below p b)

-- what holds of each gate
abbrev pub Each : (Gate → Type 0) → List Gate → Type 0
Each P [] = Unit {0}
Each P (g ∷ gs) = P g × Each P gs

-- each gate's variable has the operation's value
abbrev pub Hold : (ℕ → Bool) → List Gate → Type 0
Hold w gs = Each (λ g. w g.1.output ≡ operation_true w g.0) gs

pub Hold-same : (v w : ℕ → Bool) (gs : List Gate) (n : ℕ) → InOrder n gs → ((p : ℕ) → p < n → v p ≡ w p) → Hold v gs → Hold w gs
Hold-same v w [] n o e h = tt
Hold-same v w (g ∷ gs) n o e h =
    let below : (p : ℕ) → p < g.1.output → v p ≡ w p = λ p b. e p (omega (arith, o.0)) in
    (sym (e g.1.output o.0) ∙ h.0 ∙ operation_true-same v w g.1.output g.0 o.1 below, Hold-same v w gs g.1.output o.2 below h.1)

-- computing the gates makes each of them hold
pub Hold-run : (gs : List Gate) (v : ℕ → Bool) (n : ℕ) → InOrder n gs → Hold (run gs v) gs
Hold-run [] v n o = tt
Hold-run (g ∷ gs) v n o =
    let b : Bool = operation_true (run gs v) g.0 in
    let below : (p : ℕ) → p < g.1.output → run gs v p ≡ with_value (run gs v) g.1.output b p =
    λ p c. sym (with_value-other (run gs v) g.1.output b p (λ e. absurd (omega (arith, c, e)))) in (
      with_value-same (run gs v) g.1.output b ∙ operation_true-same (run gs v) (run (g ∷ gs) v) g.1.output g.0 o.1 below,
      Hold-same (run gs v) (run (g ∷ gs) v) gs g.1.output o.2 below (Hold-run gs v g.1.output o.2),
    )

-- values that make each gate hold are what computing the gates gives
pub run-Hold : (gs : List Gate) (w : ℕ → Bool) (n : ℕ) → InOrder n gs → Hold w gs → (p : ℕ) → run gs w p ≡ w p
run-Hold [] w n o h p = refl
run-Hold (g ∷ gs) w n o h p =
    let rest : (q : ℕ) → run gs w q ≡ w q = run-Hold gs w g.1.output o.2 h.1 in
    let value : operation_true (run gs w) g.0 ≡ w g.1.output = operation_true-same (run gs w) w g.1.output g.0 o.1 (λ q c. rest q) ∙ sym h.0 in
    pick (eqb p g.1.output) refl rest value
  where
    pick : (t : Bool) → eqb p g.1.output ≡ t → ((q : ℕ) → run gs w q ≡ w q) → operation_true (run gs w) g.0 ≡ w g.1.output → cond (eqb p g.1.output) (operation_true (run gs w) g.0) (run gs w p) ≡ w p
    pick true e rest value = ap (λ x. cond x (operation_true (run gs w) g.0) (run gs w p)) e ∙ value ∙ ap w (sym (eqb-true p g.1.output e))
    pick false e rest value = ap (λ x. cond x (operation_true (run gs w) g.0) (run gs w p)) e ∙ rest p

pub Each-push : (P : Gate → Type 0) (gs : List Gate) (g : Gate) → Each P gs → P g → Each P (gs ++ g ∷ [])
Each-push P [] g h e = (e, tt)
Each-push P (f ∷ gs) g h e = (h.0, Each-push P gs g h.1 e)

pub Each-reverse : (P : Gate → Type 0) (gs : List Gate) → Each P gs → Each P (reverse gs)
Each-reverse P [] h = tt
Each-reverse P (g ∷ gs) h = subst (Each P) (sym (reverse-append (g ∷ []) gs)) (Each-push P (reverse gs) g (Each-reverse P gs h.1) h.0)

pub Each-forward : (P : Gate → Type 0) (gs : List Gate) → Each P (reverse gs) → Each P gs
Each-forward P gs h = subst (Each P) (reverse-reverse gs) (Each-reverse P (reverse gs) h)

pub Each-All : (P : Gate → Type 0) (gs : List Gate) → All P gs → Each P gs
Each-All P [] h = tt
Each-All P (g ∷ gs) h = (All-head P g gs h, Each-All P gs (All-tail P g gs h))

-- each gate's variable is below the place that bounds the first
pub Each-below : (gs : List Gate) (n m : ℕ) → InOrder n gs → n ≤ m → Each (λ g. g.1.output < m) gs
Each-below [] n m o h = tt
Each-below (g ∷ gs) n m o h = (omega (arith, o.0), Each-below gs g.1.output m o.2 (omega (arith, o.0)))

same_operation-is : (o q : Operation) → same_operation o q ≡ true → o ≡ q
same_operation-is True True h = refl
same_operation-is True (And c d) h = absurd (false≢true h)
same_operation-is (And a b) True h = absurd (false≢true h)
same_operation-is (And a b) (And c d) h =
    let p : (int_eq a c ≡ true) × (int_eq b d ≡ true) = and_parts (int_eq a c) (int_eq b d) h in
    let e : a ≡ c = (Decides-int_eq a c).0 p.0 in let f : b ≡ d = (Decides-int_eq b d).0 p.1 in cc

-- what holds of each gate holds of one that is found for an operation
pub Each-found : (P : Gate → Type 0) (gs : List Gate) (op : Operation) (p : Placed) → Each P gs → lookup (same_operation op) gs ≡ Some p → P (op, p)
Each-found P [] op p h e = absurd (none None refl e)
  where
    none : (o : Option Placed) → o ≡ None → o ≡ Some p → ⊥
    none o f g = cc
Each-found P (g ∷ gs) op p h e = pick (same_operation op g.0) refl (λ f. Each-found P gs op p h.1 f)
  where
    pick : (t : Bool) → same_operation op g.0 ≡ t → (lookup (same_operation op) gs ≡ Some p → P (op, p)) → P (op, p)
    pick true s rest =
        let k : Some g.1 ≡ Some p = sym (ap (λ x. cond x (Some g.1) (lookup (same_operation op) gs)) s) ∙ e in
        let place : g.1 ≡ p = cc in
        let same : g.0 ≡ op = sym (same_operation-is op g.0 s) in
        let pair : g ≡ (op, p) = λ i. (same i, place i) in
        subst P pair h.0
    pick false s rest = rest (sym (ap (λ x. cond x (Some g.1) (lookup (same_operation op) gs)) s) ∙ e)
