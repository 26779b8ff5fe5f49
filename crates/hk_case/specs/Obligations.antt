-- What a handler owes, in the order in which it is decided and reported; and the cases that may violate it (Nelson et al., Hyperkernel,
-- SOSP 2017, sections 3 and 4).
use Rattle.std.specs.Prelude.{◌≡◌, ℕ, ◌+◌, ◌*◌, Bool, true, false, Option, Some, None, if◌then◌else◌, nat_eq, List, [], ◌∷◌, ◌++◌, map, length, slice_get, sum, sum_by}
use Rattle.std.specs.List.{range_with_len, All}
use Rattle.spec_tree.specs.Plain.{Field, Transition, Spec}
use Rattle.spec_tree.specs.Sorted.{key_sizes, product, field_sorts}
use Rattle.spec_tree.specs.Shapes.{AreNumbers, IsState, IsMemory}
use Rattle.ir_layout.specs.declared.object.Object.{Object}
use Rattle.hk_case.specs.declared.Obligation.{Obligation}
use Rattle.hk_case.specs.declared.Obligation.TheVariants.{Undefined, Invariant, State, ResultValue, Property}
use Rattle.hk_case.specs.declared.Case.{Case}
use Rattle.hk_case.specs.declared.Case.TheVariants.{Machine, Abstract}

-- ---- obligations

-- a void handler owes no result
abbrev pub result_owed : ℕ → List Obligation
result_owed width = if nat_eq width 0 then [] else ResultValue ∷ []

abbrev pub places : {T : Type 0} → List T → List ℕ
places xs = range_with_len 0 (length xs)

-- nothing undefined; each invariant, in text order; each field, in the order of the class; the result; each property, in text order
abbrev pub obligations_of : Spec → Transition → List Obligation
obligations_of s t =
    Undefined ∷ map Invariant (places s.invariants) ++ map State (places s.fields) ++ result_owed t.result_width ++ map Property (places s.properties)

abbrev pub IsObligation : Spec → Transition → Obligation → Type 0
IsObligation s t o = (place : ℕ) × (slice_get (obligations_of s t) place ≡ Some o)

-- ---- cases

-- a machine state: the bytes of each object, those of a constant being its initial ones
abbrev pub IsConstantKept : List Object → List (List ℕ) → Type 0
IsConstantKept objects memory = (k : ℕ) (o : Object) → slice_get objects k ≡ Some o → o.constant ≡ true → slice_get memory k ≡ Some o.bytes

pub record IsMachineState (objects : List Object) (memory : List (List ℕ)) : Type 0 where
  pub sizes : IsMemory (map (λ o. o.size) objects) memory
  pub constants : IsConstantKept objects memory

-- the shape of a case of an obligation: an abstract state for a property, and a machine state for all others; with a number for each
-- parameter
abbrev pub IsCase : List Object → Spec → Transition → Obligation → Case → Type 0
IsCase objects s t (Property p) (Abstract state args) = IsState (field_sorts s) state × AreNumbers t.widths args
IsCase objects s t (Property p) (Machine memory args) = ⊥
IsCase objects s t o (Abstract state args) = ⊥
IsCase objects s t o (Machine memory args) = IsMachineState objects memory × AreNumbers t.widths args

-- ---- how many cases there are

-- eight for each byte of a mutable object
abbrev pub object_bits : Object → ℕ
object_bits o = if o.constant then 0 else 8 * o.size

abbrev pub field_bits : Field → ℕ
field_bits f = product (key_sizes f.keys) * f.width

-- the bits of a case: those of the state, and those of the arguments
abbrev pub case_bits : List Object → Spec → Transition → Obligation → ℕ
case_bits objects s t (Property p) = sum_by field_bits s.fields + sum t.widths
case_bits objects s t o = sum_by object_bits objects + sum t.widths
