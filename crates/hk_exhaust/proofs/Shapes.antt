-- The case with a number has the shape of a case.
use Rattle.std.proofs.Common.{◌≡◌, ◌/◌, ◌%◌, ◌^◌, ◌<◌, ℕ, zero, suc, Bool, true, false, if◌then◌else◌, List, [], ◌∷◌, length, map, replicate, refl, ap, ◌∙◌, arith}
use Rattle.std.specs.Prelude.{All, Some, slice_get}
use Rattle.std.proofs.Math.Nat.{mod-lt}
use Rattle.std.proofs.lemmas.Nat.{pow_pos}
use Rattle.std.proofs.lemmas.List.Elements.{All-nil, All-cons, All-head, All-tail}
use Rattle.ir_layout.specs.declared.object.Object.{Object}
use Rattle.spec_tree.specs.Plain.{Field, Transition, Spec}
use Rattle.spec_tree.specs.Sorted.{key_sizes, product, sort_of}
use Rattle.spec_tree.specs.Shapes.{AreNumbers, IsState, IsMemory}
use Rattle.hk_case.specs.declared.Obligation.{Obligation}
use Rattle.hk_case.specs.declared.Obligation.TheVariants.{Undefined, Invariant, State, ResultValue, Property}
use Rattle.hk_case.specs.Obligations.{IsMachineState, IsCase}
use Rattle.hk_exhaust.specs.Enumeration.{numbers_of, behind, object_widths, memory_at, behind_memory, field_widths, state_at, behind_state, case_at}

numbers_fit : (ws : List ℕ) (n : ℕ) → AreNumbers ws (numbers_of ws n)
numbers_fit [] n = refl
numbers_fit (w ∷ ws) n = (mod-lt n (pow_pos w), numbers_fit ws (n / 2 ^ w))

many_fit : (k w n : ℕ) → (length (numbers_of (replicate k w) n) ≡ k) × All (λ x. x < 2 ^ w) (numbers_of (replicate k w) n)
many_fit zero w n = (refl, All-nil (λ x. x < 2 ^ w))
many_fit (suc k) w n =
    let r = many_fit k w (n / 2 ^ w) in
    (omega (arith, r.0), All-cons (λ x. x < 2 ^ w) (n % 2 ^ w) (numbers_of (replicate k w) (n / 2 ^ w)) (mod-lt n (pow_pos w)) r.1)

state_fits : (fs : List Field) (n : ℕ) → IsState (map sort_of fs) (state_at fs n)
state_fits [] n = refl
state_fits (f ∷ fs) n = (many_fit (product (key_sizes f.keys)) f.width n, state_fits fs (behind (field_widths f) n))

object_fits : (o : Object) (n : ℕ) (constant : Bool) → length o.bytes ≡ o.size → All (λ b. b < 256) o.bytes →
    (length (if constant then o.bytes else numbers_of (if constant then [] else replicate o.size 8) n) ≡ o.size)
    × All (λ b. b < 256) (if constant then o.bytes else numbers_of (if constant then [] else replicate o.size 8) n)
object_fits o n true size below = (size, below)
object_fits o n false size below = many_fit o.size 8 n

-- what is known of the objects: their initial bytes fill them
pub record AreFilled (os : List Object) : Type 0 where
  pub sizes : map (λ o. length o.bytes) os ≡ map (λ o. o.size) os
  pub bytes : All (λ o. All (λ b. b < 256) o) (map (λ o. o.bytes) os)

first_filled : (o : Object) (os : List Object) → AreFilled (o ∷ os) → (length o.bytes ≡ o.size) × All (λ b. b < 256) o.bytes × AreFilled os
first_filled o os h =
    let s : length o.bytes ∷ map (λ p. length p.bytes) os ≡ o.size ∷ map (λ p. p.size) os = h.sizes in
    let head : length o.bytes ≡ o.size = cc in
    let tail : map (λ p. length p.bytes) os ≡ map (λ p. p.size) os = cc in (
      head,
      All-head (λ b. All (λ x. x < 256) b) o.bytes (map (λ p. p.bytes) os) h.bytes,
      record { sizes = tail; bytes = All-tail (λ b. All (λ x. x < 256) b) o.bytes (map (λ p. p.bytes) os) h.bytes },
    )

memory_fits : (os : List Object) (n : ℕ) → AreFilled os → IsMemory (map (λ o. o.size) os) (memory_at os n)
memory_fits [] n h = refl
memory_fits (o ∷ os) n h =
    let f = first_filled o os h in
    (object_fits o n o.constant f.0 f.1, memory_fits os (behind (object_widths o) n) f.2)

object_kept : (o : Object) (n : ℕ) (constant : Bool) → constant ≡ true → (if constant then o.bytes else numbers_of (if constant then [] else replicate o.size 8) n) ≡ o.bytes
object_kept o n true e = refl
object_kept o n false e = cc

constants_kept : (os : List Object) (n k : ℕ) (o : Object) → slice_get os k ≡ Some o → o.constant ≡ true → slice_get (memory_at os n) k ≡ Some o.bytes
constants_kept [] n zero o g e = cc
constants_kept [] n (suc k) o g e = cc
constants_kept (p ∷ os) n zero o g e =
    let same : p ≡ o = cc in
    ap Some (object_kept p n p.constant (ap (λ x. x.constant) same ∙ e)) ∙ ap (λ x. Some x.bytes) same
constants_kept (p ∷ os) n (suc k) o g e = constants_kept os (behind (object_widths p) n) k o g e

machine_fits : (os : List Object) (n : ℕ) → AreFilled os → IsMachineState os (memory_at os n)
machine_fits os n h = record { sizes = memory_fits os n h; constants = constants_kept os n }

pub case_shaped : (objects : List Object) (s : Spec) (t : Transition) (o : Obligation) (n : ℕ) → AreFilled objects → IsCase objects s t o (case_at objects s t o n)
case_shaped objects s t (Property p) n h = (state_fits s.fields n, numbers_fit t.widths (behind_state s.fields n))
case_shaped objects s t Undefined n h = (machine_fits objects n h, numbers_fit t.widths (behind_memory objects n))
case_shaped objects s t (Invariant i) n h = (machine_fits objects n h, numbers_fit t.widths (behind_memory objects n))
case_shaped objects s t (State f) n h = (machine_fits objects n h, numbers_fit t.widths (behind_memory objects n))
case_shaped objects s t ResultValue n h = (machine_fits objects n h, numbers_fit t.widths (behind_memory objects n))
