-- Each case has a number.
use Rattle.std.proofs.Common.{◌≡◌, ◌+◌, ◌*◌, ◌/◌, ◌%◌, ◌^◌, ◌<◌, ◌≤◌, ℕ, zero, suc, Bool, true, false, if◌then◌else◌, List, [], ◌∷◌, length, map, replicate, refl, sym, ap, ◌∙◌, subst, arith, lit<, mul-le-mul_right}
use Rattle.std.specs.Prelude.{All, sum, sum_by, Some}
use Rattle.std.proofs.lemmas.Nat.{mod-mul-add, div-mul-add, pow-add}
use Rattle.std.proofs.lemmas.List.Sums.{sum_by-cons}
use Rattle.std.proofs.lemmas.List.Folds.{sum_by-replicate}
use Rattle.std.proofs.lemmas.List.Elements.{All-head, All-tail}
use Rattle.ir_layout.specs.declared.object.Object.{Object}
use Rattle.spec_tree.specs.Plain.{Field, Transition, Spec}
use Rattle.spec_tree.specs.Sorted.{key_sizes, product, sort_of}
use Rattle.spec_tree.specs.Shapes.{AreNumbers, AreEntries, IsState, IsMemory}
use Rattle.hk_case.specs.declared.Obligation.{Obligation}
use Rattle.hk_case.specs.declared.Obligation.TheVariants.{Undefined, Invariant, State, ResultValue, Property}
use Rattle.hk_case.specs.declared.Case.{Case}
use Rattle.hk_case.specs.declared.Case.TheVariants.{Machine, Abstract}
use Rattle.hk_case.specs.Obligations.{IsConstantKept, IsCase, object_bits, field_bits, case_bits}
use Rattle.hk_exhaust.specs.Enumeration.{numbers_of, behind, object_widths, object_at, memory_at, behind_memory, field_widths, state_at, behind_state, case_at}

-- a value that is read from so many low bits of a number, whatever stands behind them
pub record Coded {X : Type 0} (bits : ℕ) (at : ℕ → X) (rest : ℕ → ℕ) (x : X) : Type 0 where
  pub number : ℕ
  pub small : number < 2 ^ bits
  pub is : (m : ℕ) → at (m * 2 ^ bits + number) ≡ x
  pub left : (m : ℕ) → rest (m * 2 ^ bits + number) ≡ m

regrouped : (m p q s r : ℕ) → m * (p * q) + (s * p + r) ≡ (m * q + s) * p + r
regrouped m p q s r = omega arith

small_both : (p q s r : ℕ) → r < p → s < q → s * p + r < p * q
small_both p q s r low high =
    let more : (s + 1) * p ≤ q * p = mul-le-mul_right p (omega (arith, high)) in
    omega (arith, low, more)

none : {X : Type 0} (x : X) → Coded 0 (λ n. x) (λ n. n) x
none x = record { number = 0; small = lit< tt; is = λ m. refl; left = λ m. omega arith }

one : (w x : ℕ) → x < 2 ^ w → Coded w (λ n. n % 2 ^ w) (λ n. n / 2 ^ w) x
one w x low = record { number = x; small = low; is = λ m. mod-mul-add m (2 ^ w) x low; left = λ m. div-mul-add m (2 ^ w) x low }

both : {X Y Z : Type 0} (join : X → Y → Z) (a b : ℕ) (f : ℕ → X) (g : ℕ → ℕ) (h : ℕ → Y) (k : ℕ → ℕ) (x : X) (y : Y) → Coded a f g x → Coded b h k y → Coded (a + b) (λ n. join (f n) (h (g n))) (λ n. k (g n)) (join x y)
both join a b f g h k x y c d =
    let e : 2 ^ (a + b) ≡ 2 ^ a * 2 ^ b = pow-add 2 a b in
    let group : (m : ℕ) → m * 2 ^ (a + b) + (d.number * 2 ^ a + c.number) ≡ (m * 2 ^ b + d.number) * 2 ^ a + c.number =
    λ m. ap (λ p. m * p + (d.number * 2 ^ a + c.number)) e ∙ regrouped m (2 ^ a) (2 ^ b) d.number c.number in
    let behind_first : (m : ℕ) → g (m * 2 ^ (a + b) + (d.number * 2 ^ a + c.number)) ≡ m * 2 ^ b + d.number =
    λ m. ap g (group m) ∙ c.left (m * 2 ^ b + d.number) in
    record {
      number = d.number * 2 ^ a + c.number;
      small = subst (λ p. d.number * 2 ^ a + c.number < p) (sym e) (small_both (2 ^ a) (2 ^ b) d.number c.number c.small d.small);
      is = λ m. ap (λ n. join (f n) (h (g (m * 2 ^ (a + b) + (d.number * 2 ^ a + c.number))))) (group m)
          ∙ ap (λ v. join v (h (g (m * 2 ^ (a + b) + (d.number * 2 ^ a + c.number))))) (c.is (m * 2 ^ b + d.number))
          ∙ ap (λ n. join x (h n)) (behind_first m) ∙ ap (join x) (d.is m);
      left = λ m. ap k (behind_first m) ∙ d.left m;
    }

same_bits : {X : Type 0} (a b : ℕ) (f : ℕ → X) (g : ℕ → ℕ) (x : X) → a ≡ b → Coded a f g x → Coded b f g x
same_bits a b f g x e c = subst (λ n. Coded n f g x) e c

-- ---- numbers, objects and fields

numbers_coded : (ws ns : List ℕ) → AreNumbers ws ns → Coded (sum ws) (numbers_of ws) (behind ws) ns
numbers_coded [] ns h = subst (λ l. Coded 0 (numbers_of []) (behind []) l) (sym h) (none [])
numbers_coded (w ∷ ws) [] h = absurd h
numbers_coded (w ∷ ws) (n ∷ ns) h =
    same_bits (w + sum ws) (sum (w ∷ ws)) (numbers_of (w ∷ ws)) (behind (w ∷ ws)) (n ∷ ns) (sym (sum_by-cons (λ x. x) w ws))
    (both (λ x l. x ∷ l) w (sum ws) (λ m. m % 2 ^ w) (λ m. m / 2 ^ w) (numbers_of ws) (behind ws) n ns (one w n h.0) (numbers_coded ws ns h.1))

same_widths : (k w : ℕ) (ns : List ℕ) → length ns ≡ k → All (λ n. n < 2 ^ w) ns → AreNumbers (replicate k w) ns
same_widths zero w [] e h = refl
same_widths zero w (n ∷ ns) e h = absurd (omega (arith, e))
same_widths (suc k) w [] e h = absurd (omega (arith, e))
same_widths (suc k) w (n ∷ ns) e h = (All-head (λ m. m < 2 ^ w) n ns h, same_widths k w ns (omega (arith, e)) (All-tail (λ m. m < 2 ^ w) n ns h))

object_coded : (o : Object) (constant : Bool) (bytes : List ℕ) → o.constant ≡ constant → length bytes ≡ o.size → All (λ b. b < 256) bytes → (constant ≡ true → bytes ≡ o.bytes) →
    Coded (if constant then 0 else 8 * o.size) (λ n. if constant then o.bytes else numbers_of (if constant then [] else replicate o.size 8) n) (behind (if constant then [] else replicate o.size 8)) bytes
object_coded o true bytes e size below kept = subst (Coded 0 (λ n. o.bytes) (λ n. n)) (sym (kept refl)) (none o.bytes)
object_coded o false bytes e size below kept =
    let all : sum (replicate o.size 8) ≡ 8 * o.size = let s = sum_by-replicate (λ x. x) o.size 8 in omega (arith, s) in
    same_bits (sum (replicate o.size 8)) (8 * o.size) (numbers_of (replicate o.size 8)) (behind (replicate o.size 8)) bytes all
    (numbers_coded (replicate o.size 8) bytes (same_widths o.size 8 bytes size below))

memory_coded : (os : List Object) (memory : List (List ℕ)) → IsMemory (map (λ o. o.size) os) memory → IsConstantKept os memory → Coded (sum_by object_bits os) (memory_at os) (behind_memory os) memory
memory_coded [] memory h kept = subst (λ l. Coded 0 (memory_at []) (behind_memory []) l) (sym h) (none [])
memory_coded (o ∷ os) [] h kept = absurd h
memory_coded (o ∷ os) (bytes ∷ memory) h kept =
    let first : o.constant ≡ true → bytes ≡ o.bytes = λ e. let k : Some bytes ≡ Some o.bytes = kept 0 o refl e in cc in
    same_bits (object_bits o + sum_by object_bits os) (sum_by object_bits (o ∷ os)) (memory_at (o ∷ os)) (behind_memory (o ∷ os)) (bytes ∷ memory) (sym (sum_by-cons object_bits o os))
    (both (λ x l. x ∷ l) (object_bits o) (sum_by object_bits os) (object_at o) (behind (object_widths o)) (memory_at os) (behind_memory os) bytes memory
    (object_coded o o.constant bytes refl h.0.0 h.0.1 first) (memory_coded os memory h.1 (λ k p g e. kept (suc k) p g e)))

field_coded : (f : Field) (entries : List ℕ) → AreEntries (sort_of f) entries → Coded (field_bits f) (numbers_of (field_widths f)) (behind (field_widths f)) entries
field_coded f entries h =
    let count = product (key_sizes f.keys) in
    same_bits (sum (replicate count f.width)) (count * f.width) (numbers_of (field_widths f)) (behind (field_widths f)) entries (sum_by-replicate (λ x. x) count f.width)
    (numbers_coded (replicate count f.width) entries (same_widths count f.width entries h.0 h.1))

state_coded : (fs : List Field) (state : List (List ℕ)) → IsState (map sort_of fs) state → Coded (sum_by field_bits fs) (state_at fs) (behind_state fs) state
state_coded [] state h = subst (λ l. Coded 0 (state_at []) (behind_state []) l) (sym h) (none [])
state_coded (f ∷ fs) [] h = absurd h
state_coded (f ∷ fs) (entries ∷ state) h =
    same_bits (field_bits f + sum_by field_bits fs) (sum_by field_bits (f ∷ fs)) (state_at (f ∷ fs)) (behind_state (f ∷ fs)) (entries ∷ state) (sym (sum_by-cons field_bits f fs))
    (both (λ x l. x ∷ l) (field_bits f) (sum_by field_bits fs) (numbers_of (field_widths f)) (behind (field_widths f)) (state_at fs) (behind_state fs) entries state
    (field_coded f entries h.0) (state_coded fs state h.1))

-- ---- cases

machine_coded : (os : List Object) (ws : List ℕ) (memory : List (List ℕ)) (args : List ℕ) → IsMemory (map (λ o. o.size) os) memory → IsConstantKept os memory → AreNumbers ws args →
    Coded (sum_by object_bits os + sum ws) (λ n. Machine (memory_at os n) (numbers_of ws (behind_memory os n))) (λ n. behind ws (behind_memory os n)) (Machine memory args)
machine_coded os ws memory args h kept a =
    both Machine (sum_by object_bits os) (sum ws) (memory_at os) (behind_memory os) (numbers_of ws) (behind ws) memory args (memory_coded os memory h kept) (numbers_coded ws args a)

abstract_coded : (fs : List Field) (ws : List ℕ) (state : List (List ℕ)) (args : List ℕ) → IsState (map sort_of fs) state → AreNumbers ws args →
    Coded (sum_by field_bits fs + sum ws) (λ n. Abstract (state_at fs n) (numbers_of ws (behind_state fs n))) (λ n. behind ws (behind_state fs n)) (Abstract state args)
abstract_coded fs ws state args h a =
    both Abstract (sum_by field_bits fs) (sum ws) (state_at fs) (behind_state fs) (numbers_of ws) (behind ws) state args (state_coded fs state h) (numbers_coded ws args a)

-- the number of a case
pub record Numbered (objects : List Object) (s : Spec) (t : Transition) (o : Obligation) (c : Case) : Type 0 where
  pub number : ℕ
  pub small : number < 2 ^ case_bits objects s t o
  pub is : case_at objects s t o number ≡ c

numbered : (objects : List Object) (s : Spec) (t : Transition) (o : Obligation) (c : Case) (rest : ℕ → ℕ) → Coded (case_bits objects s t o) (case_at objects s t o) rest c → Numbered objects s t o c
numbered objects s t o c rest h =
    let e : h.number ≡ 0 * 2 ^ case_bits objects s t o + h.number = omega arith in
    record { number = h.number; small = h.small; is = ap (case_at objects s t o) e ∙ h.is 0 }

pub case_numbered : (objects : List Object) (s : Spec) (t : Transition) (o : Obligation) (c : Case) → IsCase objects s t o c → Numbered objects s t o c
case_numbered objects s t (Property p) (Abstract state args) h = numbered objects s t (Property p) (Abstract state args) _ (abstract_coded s.fields t.widths state args h.0 h.1)
case_numbered objects s t (Property p) (Machine memory args) h = absurd h
case_numbered objects s t Undefined (Abstract state args) h = absurd h
case_numbered objects s t Undefined (Machine memory args) h = numbered objects s t Undefined (Machine memory args) _ (machine_coded objects t.widths memory args h.0.sizes h.0.constants h.1)
case_numbered objects s t (Invariant i) (Abstract state args) h = absurd h
case_numbered objects s t (Invariant i) (Machine memory args) h = numbered objects s t (Invariant i) (Machine memory args) _ (machine_coded objects t.widths memory args h.0.sizes h.0.constants h.1)
case_numbered objects s t (State f) (Abstract state args) h = absurd h
case_numbered objects s t (State f) (Machine memory args) h = numbered objects s t (State f) (Machine memory args) _ (machine_coded objects t.widths memory args h.0.sizes h.0.constants h.1)
case_numbered objects s t ResultValue (Abstract state args) h = absurd h
case_numbered objects s t ResultValue (Machine memory args) h = numbered objects s t ResultValue (Machine memory args) _ (machine_coded objects t.widths memory args h.0.sizes h.0.constants h.1)
