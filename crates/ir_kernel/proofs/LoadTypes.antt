-- Loads give values of their types, from memory and from slots.
use Rattle.std.proofs.Common.{◌≡◌, ℕ, zero, suc, length, ◌+◌, ◌*◌, ◌%◌, ◌^◌, ◌<◌, ◌==◌, ◌&&◌, ◌||◌, nat_le, Bool, true, false, not, if◌then◌else◌, Option, Some, None, List, [], ◌∷◌, map, refl, sym, ◌∙◌, ap, subst, arith}
use Rattle.std.specs.Prelude.{Contains, option_and_then, position, bytes_eq, slice_index, slice_index_or, slice_get}
use Rattle.std.proofs.lemmas.Bool.{eqb-true, lt-ltb, or_from, le-leb}
use Rattle.std.proofs.lemmas.Grind.{pow_more}
use Rattle.ir_ast.specs.Plain.{Ty, integer, pointer, Val, local, global, number, null, poison, address}
use Rattle.ir_ast.specs.Program as plain
use Rattle.ir_ast.specs.Program.{FunctionView, ModuleView}
use Rattle.ir_type.specs.Names.{entry_of, locals_in}
use Rattle.ir_type.specs.Whole.{Types, meant, is_scalar, is_same, is_odd, is_memory_width}
use Rattle.ir_type.specs.Whole as types
use Rattle.ir_type.proofs.Places.{no_place, at_place, same_second}
use Rattle.ir_typing.specs.Fits.{Scope, scope_of, whole_kind, fits, fits_kind, slot_at, slot_kind, access_by, access_fits, is_align}
use Rattle.ir_typing.specs.Places.{register_names}
use Rattle.ir_typing.specs.Registers as registers
use Rattle.ir_typing.specs.Registers.{Kind, registers_of, kind_of}
use Rattle.ir_check.specs.Rules.{IsPointerAccess}
use Rattle.ir_layout.specs.Bytes.{object_of, number_at}
use Rattle.ir_layout.specs.Sizes.{align_of, written_or}
use Rattle.ir_value.specs.declared.value.Value.{Value}
use Rattle.ir_value.specs.declared.value.Value.TheVariants.{Number, Null, Address, Poison}
use Rattle.ir_value.specs.declared.value.StuckReason.TheVariants.{U6, U7, U16}
use Rattle.ir_value.specs.declared.access.Access.{Access}
use Rattle.ir_value.specs.declared.access.Access.TheVariants.{At, Not, Nowhere}
use Rattle.ir_value.specs.Pointers.{reach_of}
use Rattle.ir_code.specs.declared.act.Span.{Span}
use Rattle.ir_code.specs.declared.program.Object.{Object}
use Rattle.ir_machine.specs.declared.state.Held.{Held}
use Rattle.ir_machine.specs.declared.state.Held.TheVariants as held
use Rattle.ir_machine.specs.declared.state.Computed.{Computed}
use Rattle.ir_machine.specs.declared.state.Computed.TheVariants.{Sets, Passes, Sticks, Lost}
use Rattle.ir_machine.specs.Values.{Registers, held_at, value_of, computed, is_in_spans, within_spans, object_at, reached, loaded_from, loaded, is_aligned, slot_loaded, loaded_slot}
use Rattle.ir_resolve.specs.Operands.{input_of}
use Rattle.ir_resolve.specs.Acts.{act_of, number_width, bytes_of, spans_of, load_by, is_slot, slots_of, where_true, slot_place}
use Rattle.ir_walk.specs.Walk.{Memory}
use Rattle.ir_kernel.specs.Typed.{is_of, is_stored, IsValueOf, IsSetTo, Holds, IsReady}
use Rattle.ir_kernel.specs.Steps.{ComputesOf, GivesOf, AreBytes}
use Rattle.ir_kernel.proofs.OperandTypes.{operand_holds, names_kept}

pub left_of : (a b : Bool) → (a && b) ≡ true → a ≡ true
left_of true b e = refl
left_of false b e = absurd cc

pub right_of : (a b : Bool) → (a && b) ≡ true → b ≡ true
right_of true b e = e
right_of false b e = absurd cc

gives_computes : (ts : Types) (over : Ty) (c : Computed) → GivesOf (meant ts over) c → ComputesOf ts (Some (registers.value_of over)) c
gives_computes ts over (Sets (held.Value v)) h = h
gives_computes ts over (Sets (held.Pair a b)) h = absurd h
gives_computes ts over (Sets (held.Slot align stored)) h = absurd h
gives_computes ts over Passes h = tt
gives_computes ts over (Sticks r) h = tt
gives_computes ts over Lost h = absurd h

number_below : (n at : ℕ) (bytes : List ℕ) → ((k : ℕ) → slice_index bytes k < 256) → number_at n at bytes < 256 ^ n
number_below zero at bytes all = omega arith
number_below (suc n) at bytes all =
    let first = all at in
    let rest = number_below n (at + 1) bytes all in
    let more : 256 ^ (n + 1) ≡ 256 ^ n * 256 = pow_more 256 n in
    let same : 256 ^ suc n ≡ 256 ^ (n + 1) = ap (λ k. 256 ^ k) (omega arith) in
    omega (arith, first, rest, more, same)

in_spans : (t : Ty) (w n : ℕ) (spans : Option (List Span)) → is_of t (Number n) ≡ true → GivesOf t (within_spans w spans (Number n))
in_spans t w n spans h = by (is_in_spans w n spans)
  where
    by : (b : Bool) → GivesOf t (if b then Sets (held.Value (Number n)) else Sticks U16)
    by true = h
    by false = tt

value_in_spans : (t : Ty) (w : ℕ) (v : Value) (spans : Option (List Span)) → is_of t v ≡ true → GivesOf t (within_spans w spans v)
value_in_spans t w (Number n) spans h = in_spans t w n spans h
value_in_spans t w Null spans h = h
value_in_spans t w (Address o x) spans h = h
value_in_spans t w Poison spans h = h

-- ---- memory

pub width_cases : (P : ℕ → Type 0) (w : ℕ) → is_memory_width w ≡ true → P 8 → P 16 → P 32 → P 64 → P w
width_cases P w e a b c d = by (w == 8) (w == 16) (w == 32) (w == 64) refl refl refl refl
  where
    clash : {A : Type 0} → false ≡ true → A
    clash e = absurd cc

    by : (p q r s : Bool) → (w == 8) ≡ p → (w == 16) ≡ q → (w == 32) ≡ r → (w == 64) ≡ s → P w
    by true q r s h i j k = subst P (sym (eqb-true w 8 h)) a
    by false true r s h i j k = subst P (sym (eqb-true w 16 i)) b
    by false false true s h i j k = subst P (sym (eqb-true w 32 j)) c
    by false false false true h i j k = subst P (sym (eqb-true w 64 k)) d
    by false false false false h i j k =
        clash (sym (or_from ((w == 8) || (w == 16) || (w == 32)) (w == 64) (or_from ((w == 8) || (w == 16)) (w == 32) (or_from (w == 8) (w == 16) h i) j) k) ∙ e)

module _ (memory : Memory) (objects : List Object) (bytes_are : AreBytes memory) where
  module _ (w bytes align : ℕ) (spans : Option (List Span)) (same : 256 ^ bytes ≡ 2 ^ w) (aligned : nat_le 1 align ≡ true) where
    abbrev G : Access → Type 0
    G a = GivesOf (integer w) (loaded_from memory w bytes spans a)

    one_way : (b : Bool) (x y : Access) → G x → G y → G (if b then x else y)
    one_way true x y h k = h
    one_way false x y h k = k

    at_gives : (o x : ℕ) → G (At o x)
    at_gives o x =
        let l = number_below bytes x (object_of memory o) (bytes_are o) in
        in_spans (integer w) w (number_at bytes x (object_of memory o)) spans (lt-ltb (number_at bytes x (object_of memory o)) (2 ^ w) (subst (λ n. number_at bytes x (object_of memory o) < n) same l))

    within_gives : (size object_align o x : ℕ) → G (reach_of size object_align bytes align o x)
    within_gives size object_align o x =
        let b = not ((x % align == 0) && (object_align % align == 0)) in
        one_way (not (nat_le (x + bytes) size)) (Not U6) (if b then Not U7 else At o x) tt (one_way b (Not U7) (At o x) tt (at_gives o x))

    reached_gives : (v : Value) → is_of pointer v ≡ true → G (reached memory objects bytes align v)
    reached_gives (Number n) h = absurd cc
    reached_gives Null h = tt
    reached_gives Poison h = tt
    reached_gives (Address o x) h =
        let size = length (object_of memory o) in
        let own = (object_at objects o).align in
        subst (λ b. G (if b then reach_of size own bytes align o x else Nowhere)) (sym aligned) (within_gives size own o x)

  pub align_from : (align w : ℕ) → is_memory_width w ≡ true → nat_le 1 (written_or align (integer w)) ≡ true
  align_from zero w e = width_cases (λ w. nat_le 1 (align_of (integer w)) ≡ true) w e refl refl refl refl
  align_from (suc n) w e = le-leb 1 (suc n) (omega arith)

  whole_load : (align w : ℕ) (spans : Option (List Span)) (o : Option Value) → is_memory_width w ≡ true → IsValueOf pointer o
      → GivesOf (integer w) (loaded memory objects w (bytes_of (integer w)) (written_or align (integer w)) spans o)
  whole_load align w spans None e h = absurd h
  whole_load align w spans (Some v) e h = width_cases (λ w. nat_le 1 (written_or align (integer w)) ≡ true → GivesOf (integer w) (loaded memory objects w (bytes_of (integer w)) (written_or align (integer w)) spans (Some v))) w e
      (λ a. reached_gives 8 1 (written_or align (integer 8)) spans refl a v h)
      (λ a. reached_gives 16 2 (written_or align (integer 16)) spans refl a v h)
      (λ a. reached_gives 32 4 (written_or align (integer 32)) spans refl a v h)
      (λ a. reached_gives 64 8 (written_or align (integer 64)) spans refl a v h)
      (align_from align w e)

-- ---- slots

same_back : (t over : Ty) (v : Value) → is_same t over ≡ true → is_of over v ≡ true → is_of t v ≡ true
same_back (integer u) (integer w) v e x = subst (λ n. is_of (integer n) v ≡ true) (sym (eqb-true u w e)) x
same_back pointer pointer v e x = x
same_back t (integer w) v e x = absurd cc
same_back t pointer v e x = absurd cc
same_back t over v e x = absurd cc

stored_gives : (t over : Ty) (w : ℕ) (spans : Option (List Span)) (stored : Option Value) → is_same t over ≡ true → is_stored over stored ≡ true → GivesOf t (slot_loaded w spans stored)
stored_gives t over w spans None e x = tt
stored_gives t over w spans (Some v) e x = value_in_spans t w v spans (same_back t over v e x)

slot_gives : (t over : Ty) (w align : ℕ) (spans : Option (List Span)) (h : Option Held) → is_same t over ≡ true → IsSetTo (registers.slot_of over) h → GivesOf t (loaded_slot w align spans h)
slot_gives t over w align spans None e x = absurd x
slot_gives t over w align spans (Some (held.Value v)) e x = absurd cc
slot_gives t over w align spans (Some (held.Pair a b)) e x = absurd cc
slot_gives t over w align spans (Some (held.Slot slot_align stored)) e x = by (is_aligned align slot_align)
  where
    by : (b : Bool) → GivesOf t (if b then slot_loaded w spans stored else Sticks U7)
    by true = stored_gives t over w spans stored e x
    by false = tt

pub slot_of_kind : (o : Option Kind) (over : Ty) → slot_kind o ≡ Some over → o ≡ Some (registers.slot_of over)
slot_of_kind None over e = absurd cc
slot_of_kind (Some (registers.value_of t)) over e = absurd cc
slot_of_kind (Some (registers.slot_of t)) over e = cc
slot_of_kind (Some (registers.pair_of t)) over e = absurd cc

same_slot : (types : Types) (kind : Kind) → is_slot (whole_kind types kind) ≡ is_slot kind
same_slot types (registers.value_of t) = refl
same_slot types (registers.slot_of t) = refl
same_slot types (registers.pair_of t) = refl

-- the flag at the place of a register is that of its kind
flag_is : (types : Types) (rows : List (List ℕ × Kind)) (x : List ℕ) (k : ℕ) (kind : Kind) → slice_get {X = List ℕ × Kind} (map (λ (r : List ℕ × Kind). (r.0, whole_kind types r.1)) rows) k ≡ Some (x, kind)
    → slice_index_or (map (λ (r : List ℕ × Kind). is_slot r.1) rows) k false ≡ is_slot kind
flag_is types [] x k kind e = absurd cc
flag_is types (r ∷ rows) x zero kind e = sym (same_slot types r.1) ∙ ap is_slot (same_second {A = List ℕ} {B = Kind} (r.0, whole_kind types r.1) (x, kind) e)
flag_is types (r ∷ rows) x (suc k) kind e = flag_is types rows x k kind e

kind_is : (k l : Kind) → Some k ≡ Some l → k ≡ l
kind_is k l e = cc

value_kind : (t : Ty) (kind : Kind) → fits_kind t (Some kind) ≡ true → is_slot kind ≡ false
value_kind t (registers.value_of over) e = refl
value_kind t (registers.slot_of over) e = absurd cc
value_kind t (registers.pair_of over) e = absurd cc

module _ (m : ModuleView) (f : FunctionView) (memory : Memory) (objects : List Object) (rs : Registers) where
  abbrev s : Scope
  s = scope_of m f

  -- the register of a slot
  pub record IsSlot (target : Val) (over : Ty) : Type 0 where
    pub place : ℕ
    pub at : slot_place f target ≡ Some place
    pub holds : IsSetTo (registers.slot_of over) (held_at rs place)

  -- the place of a register of a kind, where it counts as a slot's
  flagged : (x : List ℕ) (k : ℕ) (kind : Kind) → position (bytes_eq x) (register_names f) ≡ Some k → entry_of x s.registers ≡ Some kind → slot_place f (local x) ≡ (if is_slot kind then Some k else None)
  flagged x k kind q e =
      let own = at_place s.registers x k (ap (position (bytes_eq x)) (names_kept m.types (registers_of f)) ∙ q) in
      let flag = flag_is m.types (registers_of f) x k own.0 own.1.there in
      let same : own.0 ≡ kind = kind_is own.0 kind (sym own.1.found ∙ e) in
      ap (option_and_then (where_true (slots_of f))) q ∙ ap (λ b. if b then Some k else None) (flag ∙ ap is_slot same)

  -- a pointer that is no slot's address
  no_slot : (target : Val) → fits s pointer target ≡ true → slot_place f target ≡ None
  no_slot (local x) e = by (entry_of x s.registers) (position (bytes_eq x) (register_names f)) refl refl
    where
      by : (o : Option Kind) (p : Option ℕ) → entry_of x s.registers ≡ o → position (bytes_eq x) (register_names f) ≡ p → slot_place f (local x) ≡ None
      by o None h q = ap (option_and_then (where_true (slots_of f))) q
      by None (Some k) h q = absurd (clash (sym (ap (fits_kind pointer) h) ∙ e))
        where
          clash : false ≡ true → ⊥
          clash e = cc
      by (Some kind) (Some k) h q = flagged x k kind q h ∙ ap (λ b. if b then Some k else None) (value_kind pointer kind (ap (fits_kind pointer) (sym h) ∙ e))
  no_slot (global x) e = refl
  no_slot (number n) e = refl
  no_slot null e = refl
  no_slot poison e = refl
  no_slot (address a) e = refl

  pub slot_there : (target : Val) (over : Ty) → slot_at s target ≡ Some over → ((x : List ℕ) → target ≡ local x → Holds m f rs x) → IsSlot target over
  slot_there (local x) over e holds =
      let kind = slot_of_kind (entry_of x s.registers) over e in
      by kind (position (bytes_eq x) (register_names f)) refl
    where
      clash : {A B : Type 0} {b : B} → None ≡ Some b → A
      clash e = absurd cc

      by : entry_of x s.registers ≡ Some (registers.slot_of over) → (p : Option ℕ) → position (bytes_eq x) (register_names f) ≡ p → IsSlot (local x) over
      by kind (Some k) q = record { place = k; at = flagged x k (registers.slot_of over) q kind; holds = holds x refl k (registers.slot_of over) q kind }
      by kind None q = clash (sym (no_place s.registers x (ap (position (bytes_eq x)) (names_kept m.types (registers_of f)) ∙ q)) ∙ kind)
  slot_there (global x) over e holds = absurd cc
  slot_there (number n) over e holds = absurd cc
  slot_there null over e holds = absurd cc
  slot_there poison over e holds = absurd cc
  slot_there (address a) over e holds = absurd cc

  from_memory : (t : Ty) (target : Val) (align : ℕ) (spans : Option (List Span)) → (types.is_pointer t ≡ true → ⊥) → is_scalar t ≡ true → not (is_odd t) ≡ true → AreBytes memory
      → IsValueOf pointer (value_of memory rs (input_of m f None target)) → GivesOf t (computed memory objects rs (load_by m f t target align spans None))
  from_memory (integer w) target align spans np sc odd bytes h = whole_load memory objects bytes align w spans (value_of memory rs (input_of m f None target)) (twice (is_memory_width w) odd) h
    where
      twice : (b : Bool) → not (not b) ≡ true → b ≡ true
      twice true e = refl
      twice false e = absurd cc
  from_memory pointer target align spans np sc odd bytes h = absurd (np refl)
  from_memory t target align spans np sc odd bytes h = absurd cc

  from_slot : (t over : Ty) (target : Val) (align : ℕ) (spans : Option (List Span)) (slot : IsSlot target over) → is_same t over ≡ true → GivesOf t (computed memory objects rs (load_by m f t target align spans (Some slot.place)))
  from_slot t over target align spans slot e = slot_gives t over (number_width t) (written_or align t) spans (held_at rs slot.place) e slot.holds

  pub load_gives : (over : Ty) (target : Val) (align : ℕ) (range : Option (List ℕ)) → IsReady m f rs target → AreBytes memory → access_fits s over target align ≡ true
      → (IsPointerAccess s (plain.load over target align range) → ⊥)
      → ComputesOf m.types (kind_of (plain.load over target align range)) (computed memory objects rs (act_of m f (plain.load over target align range)))
  load_gives over target align range ready bytes e outside = by (slot_at s target) refl
    where
      access : (o : Option Ty) → slot_at s target ≡ o → access_by s (meant m.types over) target o ≡ true
      access o h = subst (λ o. access_by s (meant m.types over) target o ≡ true) h (right_of (is_align align) (access_by s (meant m.types over) target (slot_at s target)) e)

      in_target : (x : List ℕ) → target ≡ local x → Holds m f rs x
      in_target x is = ready.set x (subst (λ v. Contains (locals_in v) x) (sym is) (0, omega arith, refl))

      whole : (o : Option ℕ) → slot_place f target ≡ o → GivesOf (meant m.types over) (computed memory objects rs (load_by m f (meant m.types over) target align (spans_of m (number_width (meant m.types over)) range) o))
          → ComputesOf m.types (kind_of (plain.load over target align range)) (computed memory objects rs (act_of m f (plain.load over target align range)))
      whole o h g =
          gives_computes m.types over (computed memory objects rs (act_of m f (plain.load over target align range)))
          (subst (λ o. GivesOf (meant m.types over) (computed memory objects rs (load_by m f (meant m.types over) target align (spans_of m (number_width (meant m.types over)) range) o))) (sym h) g)

      by : (o : Option Ty) → slot_at s target ≡ o → ComputesOf m.types (kind_of (plain.load over target align range)) (computed memory objects rs (act_of m f (plain.load over target align range)))
      by (Some u) h =
          let slot = slot_there target u h in_target in
          whole (Some slot.place) slot.at (from_slot (meant m.types over) u target align (spans_of m (number_width (meant m.types over)) range) slot (access (Some u) h))
      by None h =
          let a = access None h in
          let two = left_of (fits s pointer target && is_scalar (meant m.types over)) (not (is_odd (meant m.types over))) a in
          let fitting = left_of (fits s pointer target) (is_scalar (meant m.types over)) two in
          whole None (no_slot target fitting) (from_memory (meant m.types over) target align (spans_of m (number_width (meant m.types over)) range) (λ p. outside (p, h))
          (right_of (fits s pointer target) (is_scalar (meant m.types over)) two)
          (right_of (fits s pointer target && is_scalar (meant m.types over)) (not (is_odd (meant m.types over))) a) bytes
          (operand_holds m f memory rs pointer target ready fitting))
