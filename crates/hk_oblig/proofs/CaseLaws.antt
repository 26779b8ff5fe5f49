-- The case of a reading has the shape of a case, and each case is that of a reading.
use Rattle.std.proofs.Common.{◌≡◌, ◌+◌, ◌%◌, ◌^◌, ◌<◌, ℕ, zero, suc, Some, List, [], ◌∷◌, length, map, get_or, refl, sym, ap, ◌∙◌, subst, arith, true, mod-eq_of_lt}
use Rattle.std.specs.Prelude.{All, slice_get, slice_index, slice_index_or}
use Rattle.std.proofs.Math.Nat.{mod-lt}
use Rattle.std.proofs.lemmas.Nat.{pow_pos}
use Rattle.std.proofs.lemmas.List.{ext_get_or}
use Rattle.std.proofs.lemmas.List.FromFn.{length-map-range_with_len, get_or-map-range_with_len}
use Rattle.std.proofs.lemmas.List.Elements.{All-head, All-tail, All-get_or, All-from_get_or}
use Rattle.hk_term.specs.Meaning.{Reading}
use Rattle.ir_layout.specs.declared.object.Object.{Object}
use Rattle.hk_symmem.specs.Origins as origins
use Rattle.hk_symmem.specs.Origins.{Origin, fixed, cells, object_from, objects_from, start_memory, AreOriginsOf, IsObjectState}
use Rattle.hk_symmem.proofs.StateLaws.{state_is_given}
use Rattle.spec_tree.specs.Plain.{Transition, Spec}
use Rattle.spec_tree.specs.Sorted.{FieldSort, key_sizes, product, field_sorts}
use Rattle.spec_tree.specs.Shapes.{AreNumbers, AreEntries, IsState, IsMemory}
use Rattle.hk_case.specs.declared.Obligation.{Obligation}
use Rattle.hk_case.specs.declared.Obligation.TheVariants.{Undefined, Invariant, State, ResultValue, Property}
use Rattle.hk_case.specs.declared.Case.{Case}
use Rattle.hk_case.specs.declared.Case.TheVariants.{Machine, Abstract}
use Rattle.hk_case.specs.Obligations.{IsConstantKept, IsMachineState, IsCase}
use Rattle.hk_symspec.specs.States.{array_entries, free_state}
use Rattle.hk_oblig.specs.Cases.{arguments_from, arguments_at, case_at, HasBytes}

none : (k : ℕ) → 0 + k ≡ k
none k = omega arith

next : (first k : ℕ) → first + 1 + k ≡ first + suc k
next first k = omega arith

here : (first : ℕ) → first ≡ first + 0
here first = omega arith

-- ---- arguments

arguments_fit : (ws : List ℕ) (first : ℕ) (var : ℕ → ℕ) → AreNumbers ws (arguments_from first ws var)
arguments_fit [] first var = refl
arguments_fit (w ∷ ws) first var = (mod-lt (var first) (pow_pos w), arguments_fit ws (first + 1) var)

arguments_given : (ws ns : List ℕ) (first : ℕ) (var : ℕ → ℕ) → AreNumbers ws ns → ((k : ℕ) → var (first + k) ≡ slice_index ns k) → arguments_from first ws var ≡ ns
arguments_given [] ns first var a h = sym a
arguments_given (w ∷ ws) [] first var a h = absurd a
arguments_given (w ∷ ws) (n ∷ ns) first var a h =
    let head : var first ≡ n = ap var (here first) ∙ h 0 in
    (λ i. head i % 2 ^ w ∷ arguments_given ws ns (first + 1) var a.1 (λ k. ap var (next first k) ∙ h (suc k)) i)
    ∙ ap (λ m. m ∷ ns) (mod-eq_of_lt a.0)

-- ---- abstract states

entries_fit : (f : FieldSort) (array : ℕ → ℕ) → AreEntries f (array_entries f array)
entries_fit f array =
    let count = product (key_sizes f.keys) in
    let long : length (array_entries f array) ≡ count = length-map-range_with_len (λ k. array k % 2 ^ f.width) 0 count in
    let small : (k : ℕ) → k < length (array_entries f array) → get_or (array_entries f array) k 0 < 2 ^ f.width =
    λ k low. subst (λ n. n < 2 ^ f.width) (sym (get_or-map-range_with_len (λ k. array k % 2 ^ f.width) 0 count k k 0 (omega (arith, low, long)) (none k)))
    (mod-lt (array k) (pow_pos f.width)) in
    (long, All-from_get_or (λ n. n < 2 ^ f.width) (array_entries f array) 0 small)

state_fits : (fs : List FieldSort) (first : ℕ) (entry : ℕ → ℕ → ℕ) → IsState fs (free_state first fs entry)
state_fits [] first entry = refl
state_fits (f ∷ fs) first entry = (entries_fit f (entry first), state_fits fs (first + 1) entry)

entries_given : (f : FieldSort) (entries : List ℕ) (array : ℕ → ℕ) → AreEntries f entries → ((k : ℕ) → array k ≡ slice_index entries k) → array_entries f array ≡ entries
entries_given f entries array a h = ext_get_or 0 (array_entries f array) entries (long ∙ sym a.0) each
  where
    count : ℕ
    count = product (key_sizes f.keys)

    long : length (array_entries f array) ≡ product (key_sizes f.keys)
    long = length-map-range_with_len (λ k. array k % 2 ^ f.width) 0 (product (key_sizes f.keys))

    each : (k : ℕ) → k < length (array_entries f array) → get_or (array_entries f array) k 0 ≡ get_or entries k 0
    each k low =
        let within : k < length entries = omega (arith, low, long, a.0) in
        let small : slice_index entries k < 2 ^ f.width = All-get_or (λ n. n < 2 ^ f.width) entries k 0 within a.1 in
        get_or-map-range_with_len (λ k. array k % 2 ^ f.width) 0 (product (key_sizes f.keys)) k k 0 (omega (arith, low, long)) (none k)
        ∙ ap (λ n. n % 2 ^ f.width) (h k) ∙ mod-eq_of_lt small

state_given : (fs : List FieldSort) (state : List (List ℕ)) (first : ℕ) (entry : ℕ → ℕ → ℕ) → IsState fs state
    → ((k j : ℕ) → entry (first + k) j ≡ slice_index (slice_index_or state k []) j) → free_state first fs entry ≡ state
state_given [] state first entry a h = sym a
state_given (f ∷ fs) [] first entry a h = absurd a
state_given (f ∷ fs) (entries ∷ state) first entry a h = λ i.
    entries_given f entries (entry first) a.0 (λ j. ap (λ p. entry p j) (here first) ∙ h 0 j) i
    ∷ state_given fs state (first + 1) entry a.1 (λ k j. ap (λ p. entry p j) (next first k) ∙ h (suc k) j) i

-- ---- machine states

sizes_fit : (os : List Object) (xs : List Origin) (first : ℕ) (entry : ℕ → ℕ → ℕ) → AreOriginsOf os xs → map (λ o. length o.bytes) os ≡ map (λ o. o.size) os
    → All (λ o. All (λ b. b < 256) o) (objects_from first xs entry) → IsMemory (map (λ o. o.size) os) (objects_from first xs entry)
sizes_fit [] [] first entry a s b = refl
sizes_fit [] (x ∷ xs) first entry a s b = absurd a
sizes_fit (o ∷ os) [] first entry a s b = absurd a
sizes_fit (o ∷ os) (fixed bytes ∷ xs) first entry a s b =
    let e : length o.bytes ∷ map (λ p. length p.bytes) os ≡ o.size ∷ map (λ p. p.size) os = s in
    let head : length o.bytes ≡ o.size = cc in
    let tail : map (λ p. length p.bytes) os ≡ map (λ p. p.size) os = cc in (
      (ap length a.0.1 ∙ head, All-head (λ l. All (λ b. b < 256) l) bytes (objects_from (first + 1) xs entry) b),
      sizes_fit os xs (first + 1) entry a.1 tail (All-tail (λ l. All (λ b. b < 256) l) bytes (objects_from (first + 1) xs entry) b),
    )
sizes_fit (o ∷ os) (cells size c ∷ xs) first entry a s b =
    let e : length o.bytes ∷ map (λ p. length p.bytes) os ≡ o.size ∷ map (λ p. p.size) os = s in
    let tail : map (λ p. length p.bytes) os ≡ map (λ p. p.size) os = cc in
    let bytes = object_from (cells size c) (entry first) in (
      (length-map-range_with_len (origins.cell_byte c (entry first)) 0 size ∙ a.0.1, All-head (λ l. All (λ b. b < 256) l) bytes (objects_from (first + 1) xs entry) b),
      sizes_fit os xs (first + 1) entry a.1 tail (All-tail (λ l. All (λ b. b < 256) l) bytes (objects_from (first + 1) xs entry) b),
    )

constants_kept : (os : List Object) (xs : List Origin) (first : ℕ) (entry : ℕ → ℕ → ℕ) → AreOriginsOf os xs
    → (k : ℕ) (o : Object) → slice_get os k ≡ Some o → o.constant ≡ true → slice_get (objects_from first xs entry) k ≡ Some o.bytes
constants_kept [] xs first entry a zero o g e = cc
constants_kept [] xs first entry a (suc k) o g e = cc
constants_kept (p ∷ os) [] first entry a k o g e = absurd a
constants_kept (p ∷ os) (fixed bytes ∷ xs) first entry a zero o g e =
    let same : p ≡ o = cc in
    ap Some a.0.1 ∙ ap (λ x. Some x.bytes) same
constants_kept (p ∷ os) (cells size c ∷ xs) first entry a zero o g e =
    let same : p ≡ o = cc in
    let f = a.0.0 in
    let t : p.constant ≡ true = ap (λ x. x.constant) same ∙ e in
    cc
constants_kept (p ∷ os) (x ∷ xs) first entry a (suc k) o g e = constants_kept os xs (first + 1) entry a.1 k o g e

-- a machine state, object by object
objects_hold : (os : List Object) (memory : List (List ℕ)) → IsMemory (map (λ o. o.size) os) memory → IsConstantKept os memory → origins.IsMachineState os memory
objects_hold [] [] h k = tt
objects_hold [] (b ∷ bs) h k = cc
objects_hold (o ∷ os) [] h k = absurd h
objects_hold (o ∷ os) (b ∷ bs) h k =
    let own : o.constant ≡ true → b ≡ o.bytes = λ e. let f : Some b ≡ Some o.bytes = k 0 o refl e in cc in
    (record { whole = h.0.0; small = h.0.1; constant = own }, objects_hold os bs h.1 (λ n p g e. k (suc n) p g e))

pub many_objects : (os : List Object) (xs : List Origin) (first : ℕ) (entry : ℕ → ℕ → ℕ) → AreOriginsOf os xs → length os ≡ length (objects_from first xs entry)
many_objects [] [] first entry a = refl
many_objects [] (x ∷ xs) first entry a = absurd a
many_objects (o ∷ os) [] first entry a = absurd a
many_objects (o ∷ os) (x ∷ xs) first entry a = ap suc (many_objects os xs (first + 1) entry a.1)

-- ---- cases

machine_shaped : (objects : List Object) (ws : List ℕ) (xs : List Origin) (v : Reading) → AreOriginsOf objects xs → map (λ o. length o.bytes) objects ≡ map (λ o. o.size) objects
    → All (λ o. All (λ b. b < 256) o) (start_memory xs v.entry) → IsMachineState objects (start_memory xs v.entry) × AreNumbers ws (arguments_at ws v.var)
machine_shaped objects ws xs v a s b =
    (record { sizes = sizes_fit objects xs 0 v.entry a s b; constants = constants_kept objects xs 0 v.entry a }, arguments_fit ws 0 v.var)

pub case_shaped : (objects : List Object) (s : Spec) (t : Transition) (o : Obligation) (xs : List Origin) (v : Reading) → AreOriginsOf objects xs
    → map (λ p. length p.bytes) objects ≡ map (λ p. p.size) objects → HasBytes (case_at xs s t o v) → IsCase objects s t o (case_at xs s t o v)
case_shaped objects s t (Property p) xs v a e b = (state_fits (field_sorts s) 0 v.entry, arguments_fit t.widths 0 v.var)
case_shaped objects s t Undefined xs v a e b = machine_shaped objects t.widths xs v a e b
case_shaped objects s t (Invariant i) xs v a e b = machine_shaped objects t.widths xs v a e b
case_shaped objects s t (State f) xs v a e b = machine_shaped objects t.widths xs v a e b
case_shaped objects s t ResultValue xs v a e b = machine_shaped objects t.widths xs v a e b

arguments_are : (ws ns : List ℕ) → AreNumbers ws ns → arguments_at ws (slice_index ns) ≡ ns
arguments_are ws ns a = arguments_given ws ns 0 (slice_index ns) a (λ k. ap (slice_index ns) (none k))

machine_given : (objects : List Object) (ws : List ℕ) (xs : List Origin) (memory : List (List ℕ)) (args : List ℕ) → AreOriginsOf objects xs
    → IsMachineState objects memory → AreNumbers ws args → (v : Reading) × (Machine (start_memory xs v.entry) (arguments_at ws v.var) ≡ Machine memory args)
machine_given objects ws xs memory args a m n =
    let g = state_is_given objects xs memory a (objects_hold objects memory m.sizes m.constants) in
    (record { var = slice_index args; entry = g.0 }, λ i. Machine (g.1 i) (arguments_are ws args n i))

abstract_given : (fs : List FieldSort) (ws : List ℕ) (state : List (List ℕ)) (args : List ℕ) → IsState fs state → AreNumbers ws args
    → (v : Reading) × (Abstract (free_state 0 fs v.entry) (arguments_at ws v.var) ≡ Abstract state args)
abstract_given fs ws state args s n =
    let entry : ℕ → ℕ → ℕ = λ k j. slice_index (slice_index_or state k []) j in
    let is : free_state 0 fs entry ≡ state = state_given fs state 0 entry s (λ k j. ap (λ p. entry p j) (none k)) in
    (record { var = slice_index args; entry = entry }, λ i. Abstract (is i) (arguments_are ws args n i))

pub case_given : (objects : List Object) (s : Spec) (t : Transition) (o : Obligation) (xs : List Origin) (c : Case) → AreOriginsOf objects xs → IsCase objects s t o c
    → (v : Reading) × (case_at xs s t o v ≡ c)
case_given objects s t (Property p) xs (Abstract state args) a h = abstract_given (field_sorts s) t.widths state args h.0 h.1
case_given objects s t (Property p) xs (Machine memory args) a h = absurd h
case_given objects s t Undefined xs (Abstract state args) a h = absurd h
case_given objects s t Undefined xs (Machine memory args) a h = machine_given objects t.widths xs memory args a h.0 h.1
case_given objects s t (Invariant i) xs (Abstract state args) a h = absurd h
case_given objects s t (Invariant i) xs (Machine memory args) a h = machine_given objects t.widths xs memory args a h.0 h.1
case_given objects s t (State f) xs (Abstract state args) a h = absurd h
case_given objects s t (State f) xs (Machine memory args) a h = machine_given objects t.widths xs memory args a h.0 h.1
case_given objects s t ResultValue xs (Abstract state args) a h = absurd h
case_given objects s t ResultValue xs (Machine memory args) a h = machine_given objects t.widths xs memory args a h.0 h.1
