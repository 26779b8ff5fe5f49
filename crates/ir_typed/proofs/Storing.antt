-- Stores, into slots and into memory.
use Rattle.std.proofs.Common.{lit<, ◌≡◌, inl, ℕ, zero, suc, ◌+◌, ◌/◌, ◌%◌, ◌<◌, Bool, true, false, ◌&&◌, not, if◌then◌else◌, Option, Some, None, List, [], ◌∷◌, length, map, refl, sym, ◌∙◌, ap, subst, arith}
use Rattle.std.specs.Prelude.{Contains, option_and_then, position, bytes_eq, slice_get, slice_set, slice_index, slice_index_or}
use Rattle.std.proofs.Math.Nat.{mod-lt}
use Rattle.std.proofs.lemmas.List.{length-set, length-map}
use Rattle.ir_ast.specs.Plain.{Ty, integer, pointer, Val, local, global, number, null, poison, address}
use Rattle.ir_ast.specs.Program as plain
use Rattle.ir_ast.specs.Program.{Act, InstrView, BlockView, FunctionView, ModuleView}
use Rattle.ir_layout.specs.Bytes.{object_of, with_number}
use Rattle.ir_layout.specs.Sizes.{written_or}
use Rattle.ir_type.specs.Names.{entry_of, locals_in}
use Rattle.ir_type.specs.Shape.{is_last}
use Rattle.ir_type.specs.Whole.{Types, meant, is_scalar, is_same, is_odd, is_memory_width}
use Rattle.ir_type.specs.Whole as types
use Rattle.ir_type.proofs.Places.{at_place, same_second, place_below}
use Rattle.ir_typing.specs.Registers as registers
use Rattle.ir_typing.specs.Registers.{Kind, kind_of, registers_of}
use Rattle.ir_typing.specs.Places.{register_names}
use Rattle.ir_typing.specs.Fits.{Scope, scope_of, whole_kind, fits, form_fits, fits_kind, slot_at, access_by, is_align}
use Rattle.ir_check.specs.Checked.{IsChecked}
use Rattle.ir_whole.specs.Questions.{width_of}
use Rattle.ir_value.specs.declared.value.Value.{Value}
use Rattle.ir_machine.specs.declared.state.Computed.{Computed}
use Rattle.ir_machine.specs.declared.state.Computed.TheVariants.{Sets, Passes, Sticks, Lost}
use Rattle.ir_machine.specs.declared.state.Written.{Written}
use Rattle.ir_machine.specs.declared.state.Written.TheVariants as written
use Rattle.ir_machine.specs.declared.state.Machine.{Machine}
use Rattle.ir_machine.specs.Values.{Registers, held_at, value_of}
use Rattle.ir_machine.specs.Step.{act_on, after_store, after_slot, stored, slot_stored, write_to}
use Rattle.ir_resolve.specs.Operands.{input_of}
use Rattle.ir_resolve.specs.Acts.{act_of, bytes_of, store_by, is_slot, slots_of, where_true, slot_place}
use Rattle.ir_resolve.specs.Resolved.{step_of, program_of}
use Rattle.ir_kernel.specs.Typed.{is_held, IsValueOf, Holds}
use Rattle.ir_kernel.specs.Steps.{AreBytes, HoldsSlot, IsWritten}
use Rattle.ir_kernel.proofs.LoadTypes.{left_of, right_of, slot_of_kind, IsSlot, slot_there}
use Rattle.ir_kernel.proofs.OperandTypes.{operand_holds, names_kept}
use Rattle.ir_kernel.proofs.StoreTypes.{slot_holds, memory_written}
use Rattle.ir_typed.proofs.RegisterKinds.{HoldsUsed, set_holds}
use Rattle.ir_typed.proofs.Standing.{MovesOn, moves_on, frame_moves}
use Rattle.ir_typed.proofs.Using.{IsAtHand, at_hand}
use Rattle.ir_typed.proofs.Keeping.{IsTyped, NextFits, no_more, goes}

-- ---- bytes

set_bytes : (xs : List ℕ) (i v : ℕ) → v < 256 → ((k : ℕ) → slice_index xs k < 256) → (k : ℕ) → slice_index (slice_set xs i v) k < 256
set_bytes [] i v l all k = all k
set_bytes (x ∷ xs) zero v l all zero = l
set_bytes (x ∷ xs) zero v l all (suc k) = all (suc k)
set_bytes (x ∷ xs) (suc i) v l all zero = all 0
set_bytes (x ∷ xs) (suc i) v l all (suc k) = set_bytes xs i v l (λ j. all (suc j)) k

number_bytes : (n at v : ℕ) (xs : List ℕ) → ((k : ℕ) → slice_index xs k < 256) → (k : ℕ) → slice_index (with_number n at v xs) k < 256
number_bytes zero at v xs all k = all k
number_bytes (suc n) at v xs all k = number_bytes n (at + 1) (v / 256) (slice_set xs at (v % 256)) (set_bytes xs at (v % 256) (mod-lt v (lit< tt)) all) k

abbrev Byte : List ℕ → Type 0
Byte xs = (k : ℕ) → slice_index xs k < 256

set_object : (memory : List (List ℕ)) (o : ℕ) (xs : List ℕ) → Byte xs → AreBytes memory → AreBytes (slice_set memory o xs)
set_object [] o xs own all p = all p
set_object (b ∷ memory) zero xs own all zero = own
set_object (b ∷ memory) zero xs own all (suc p) = all (suc p)
set_object (b ∷ memory) (suc o) xs own all zero = all 0
set_object (b ∷ memory) (suc o) xs own all (suc p) = set_object memory o xs own (λ q. all (suc q)) p

pub written_bytes : (memory : List (List ℕ)) (bytes o x n : ℕ) → AreBytes memory → AreBytes (write_to memory bytes o x n)
written_bytes memory bytes o x n all = set_object memory o (with_number bytes x n (object_of memory o)) (number_bytes bytes x n (object_of memory o) (all o)) all

-- ---- types of what is stored

pointer_is : (t : Ty) → types.is_pointer t ≡ true → is_scalar t ≡ true
pointer_is pointer e = refl
pointer_is t e = absurd cc

pub fits_scalar : (s : Scope) (t : Ty) (v : Val) → fits s t v ≡ true → is_scalar t ≡ true
fits_scalar s t (local x) e = by (entry_of x s.registers) e
  where
    by : (o : Option Kind) → fits_kind t o ≡ true → is_scalar t ≡ true
    by (Some (registers.value_of over)) e = left_of (is_scalar t) (is_same over t) e
    by (Some (registers.slot_of over)) e = absurd cc
    by (Some (registers.pair_of over)) e = absurd cc
    by None e = absurd cc
fits_scalar s t (global x) e = pointer_is t e
fits_scalar s (integer w) (number n) e = refl
fits_scalar s t (number n) e = absurd cc
fits_scalar s t null e = pointer_is t e
fits_scalar s t poison e = e
fits_scalar s t (address a) e = pointer_is t (left_of (types.is_pointer t) (form_fits s a) e)

-- ---- the slot of an operand

flag_false : (types : Types) (rows : List (List ℕ × Kind)) (x : List ℕ) (k : ℕ) (kind : Kind) → slice_get {X = List ℕ × Kind} (map (λ (r : List ℕ × Kind). (r.0, whole_kind types r.1)) rows) k ≡ Some (x, kind)
    → is_slot kind ≡ false → slice_index_or (map (λ (r : List ℕ × Kind). is_slot r.1) rows) k false ≡ false
flag_false types [] x k kind e n = refl
flag_false types (r ∷ rows) x zero kind e n = same r.1 (same_second {A = List ℕ} {B = Kind} (r.0, whole_kind types r.1) (x, kind) e)
  where
    same : (own : Kind) → whole_kind types own ≡ kind → is_slot own ≡ false
    same (registers.value_of t) h = refl
    same (registers.slot_of t) h = ap is_slot h ∙ n
    same (registers.pair_of t) h = refl
flag_false types (r ∷ rows) x (suc k) kind e n = flag_false types rows x k kind e n

value_no_slot : (t : Ty) (kind : Kind) → fits_kind t (Some kind) ≡ true → is_slot kind ≡ false
value_no_slot t (registers.value_of over) e = refl
value_no_slot t (registers.slot_of over) e = absurd cc
value_no_slot t (registers.pair_of over) e = absurd cc

module _ (m : ModuleView) (f : FunctionView) where
  abbrev s : Scope
  s = scope_of m f

  no_slot : (target : Val) → fits s pointer target ≡ true → slot_place f target ≡ None
  no_slot (local x) e = by (position (bytes_eq x) (register_names f)) refl
    where
      one : (k l : Kind) → Some k ≡ Some l → k ≡ l
      one k l e = cc

      by : (p : Option ℕ) → position (bytes_eq x) (register_names f) ≡ p → slot_place f (local x) ≡ None
      by None q = ap (option_and_then (where_true (slots_of f))) q
      by (Some k) q =
          let own = at_place s.registers x k (ap (position (bytes_eq x)) (names_kept m.types (registers_of f)) ∙ q) in
          let value = value_no_slot pointer own.0 (ap (fits_kind pointer) (sym own.1.found) ∙ e) in
          ap (option_and_then (where_true (slots_of f))) q ∙ ap (λ b. if b then Some k else None) (flag_false m.types (registers_of f) x k own.0 own.1.there value)
  no_slot (global x) e = refl
  no_slot (number n) e = refl
  no_slot null e = refl
  no_slot poison e = refl
  no_slot (address a) e = refl

  -- the name of a slot's register
  record IsNamed (target : Val) (over : Ty) (place : ℕ) : Type 0 where
    pub name : List ℕ
    pub at : position (bytes_eq name) (register_names f) ≡ Some place
    pub found : entry_of name s.registers ≡ Some (registers.slot_of over)

  slot_named : (target : Val) (over : Ty) (place : ℕ) → slot_at s target ≡ Some over → slot_place f target ≡ Some place → IsNamed target over place
  slot_named (local x) over place e at = by (position (bytes_eq x) (register_names f)) refl
    where
      none_is : {A : Type 0} → None ≡ Some place → A
      none_is e = absurd cc

      kept : (b : Bool) (k : ℕ) → (if b then Some k else None) ≡ Some place → Some k ≡ Some place
      kept true k h = h
      kept false k h = none_is h

      by : (p : Option ℕ) → position (bytes_eq x) (register_names f) ≡ p → IsNamed (local x) over place
      by None q = none_is (sym (ap (option_and_then (where_true (slots_of f))) q) ∙ at)
      by (Some k) q = record {
        name = x;
        at = q ∙ kept (slice_index_or (slots_of f) k false) k (sym (ap (option_and_then (where_true (slots_of f))) q) ∙ at);
        found = slot_of_kind (entry_of x s.registers) over e;
      }
  slot_named (global x) over place e at = absurd cc
  slot_named (number n) over place e at = absurd cc
  slot_named null over place e at = absurd cc
  slot_named poison over place e at = absurd cc
  slot_named (address a) over place e at = absurd cc

-- ---- stores

module _ (m : ModuleView) (checked : IsChecked m) (whole : FunctionView) (c : Machine) (typed : IsTyped m whole c) where
  abbrev f : FunctionView
  f = typed.top.function

  abbrev rs : Registers
  rs = c.top.registers

  abbrev i : InstrView
  i = typed.top.instr

  module _ (over : Ty) (v target : Val) (align : ℕ) (is : i.act ≡ plain.store over v target align) where
    abbrev t : Ty
    t = meant m.types over

    abbrev Fits : Option ℕ → Type 0
    Fits o = NextFits m whole (act_on (program_of m) c (step_of m f i) (store_by m f t v target align o))

    hand : IsAtHand m f rs (plain.store over v target align)
    hand = subst (IsAtHand m f rs) is (at_hand m checked f typed.top.block typed.top.before i typed.top.after rs typed.top.at)

    no_kind : kind_of i.act ≡ None
    no_kind = ap kind_of is

    not_last : is_last i ≡ false
    not_last = by i.act is
      where
        by : (a : Act) → a ≡ plain.store over v target align → is_last (record i { act = a }) ≡ false
        by a e = ap (λ (a : Act). is_last (record i { act = a })) e

    value : IsValueOf t (value_of c.memory rs (input_of m f (width_of t) v))
    value = operand_holds m f c.memory rs t v (hand.ready v (0, omega arith, refl)) (left_of (fits (scope_of m f) t v) true hand.fitting)

    scalar : is_scalar t ≡ true
    scalar = fits_scalar (scope_of m f) t v (left_of (fits (scope_of m f) t v) true hand.fitting)

    kept_on : (more : Registers) → length more ≡ length rs → ((x : List ℕ) → HoldsUsed m f rs x → HoldsUsed m f more x) → MovesOn m f typed.top.block typed.top.before i more
    kept_on more n each =
        moves_on m checked f typed.top.block typed.top.before i typed.top.after rs more typed.top.at not_last (n ∙ typed.top.at.count)
        (λ x d. each x (no_more m checked f typed.top.block typed.top.before i typed.top.after rs typed.top.at no_kind x d))

    abbrev input : Option Value
    input = value_of c.memory rs (input_of m f (width_of t) v)

    slot_fits : (own : Ty) (slot : IsSlot m f c.memory (program_of m).objects rs target own) → IsNamed m f target own slot.place → is_same t own ≡ true → Fits (Some slot.place)
    slot_fits own slot named same = by (slot_stored (written_or align t) input (held_at rs slot.place)) (slot_holds t own (written_or align t) input (held_at rs slot.place) value scalar same slot.holds)
      where
        one : (k l : Kind) → Some k ≡ Some l → k ≡ l
        one k l e = cc

        below : slot.place < length rs
        below =
            let n : length (register_names f) ≡ length (registers_of f) = length-map (registers_of f) _ in
            let l = place_below (registers_of f) named.name slot.place named.at in
            let k = typed.top.at.count in
            omega (arith, n, l, k)

        by : (o : Computed) → HoldsSlot own o → NextFits m whole (after_slot i.line c slot.place o)
        by (Sets h) holds =
            goes m checked whole c typed (slice_set rs slot.place (Some h)) (kept_on (slice_set rs slot.place (Some h)) (length-set rs slot.place (Some h))
            (λ x old. set_holds m f rs named.name x slot.place h named.at below (λ kind e u. subst (λ k. is_held k h ≡ true) (one (registers.slot_of own) kind (sym named.found ∙ e)) holds) (inl old)))
        by Passes holds = absurd holds
        by (Sticks r) holds = tt
        by Lost holds = absurd holds

    memory_fits : (w : ℕ) → t ≡ integer w → is_memory_width w ≡ true → IsValueOf pointer (value_of c.memory rs (input_of m f None target)) → Fits None
    memory_fits w same even at =
        by (stored c.memory (program_of m).objects (bytes_of t) (written_or align t) input (value_of c.memory rs (input_of m f None target)))
        (subst (λ t. IsValueOf t input → IsWritten (stored c.memory (program_of m).objects (bytes_of t) (written_or align t) input (value_of c.memory rs (input_of m f None target)))) (sym same)
        (λ x. memory_written w align c.memory (program_of m).objects input (value_of c.memory rs (input_of m f None target)) even x at) value)
      where
        by : (o : Written) → IsWritten o → NextFits m whole (after_store i.line c (bytes_of t) o)
        by (written.Puts o x n) h = record {
          bytes = written_bytes c.memory (bytes_of t) o x n typed.bytes;
          top = frame_moves m checked c.top typed.top rs (kept_on rs refl (λ x old. old));
          below = typed.below;
        }
        by (written.Sticks r) h = tt
        by written.Lost h = absurd h

    in_target : (x : List ℕ) → target ≡ local x → Holds m f rs x
    in_target x is = (hand.ready target (1, omega arith, refl)).set x (subst (λ v. Contains (locals_in v) x) (sym is) (0, omega arith, refl))

    outside : slot_at (scope_of m f) target ≡ None → (u : Ty) → t ≡ u → types.is_pointer u ≡ true → ⊥
    outside h u same p = hand.inside (subst (λ u. types.is_pointer u ≡ true) (sym same) p, h)

    by_type : (u : Ty) → t ≡ u → is_scalar u ≡ true → not (is_odd u) ≡ true → slot_at (scope_of m f) target ≡ None → IsValueOf pointer (value_of c.memory rs (input_of m f None target)) → Fits None
    by_type (integer w) same s odd h at = memory_fits w same (twice (is_memory_width w) odd) at
      where
        twice : (b : Bool) → not (not b) ≡ true → b ≡ true
        twice true e = refl
        twice false e = absurd cc
    by_type pointer same s odd h at = absurd (outside h pointer same refl)
    by_type u same s odd h at = absurd cc

    access : (o : Option Ty) → slot_at (scope_of m f) target ≡ o → access_by (scope_of m f) t target o ≡ true
    access o h = subst (λ o. access_by (scope_of m f) t target o ≡ true) h (right_of (is_align align) (access_by (scope_of m f) t target (slot_at (scope_of m f) target)) hand.more)

    store_goes : (o : Option Ty) → slot_at (scope_of m f) target ≡ o → Fits (slot_place f target)
    store_goes (Some own) h =
        let slot = slot_there m f c.memory (program_of m).objects rs target own h in_target in
        subst Fits (sym slot.at) (slot_fits own slot (slot_named m f target own slot.place h slot.at) (access (Some own) h))
    store_goes None h =
        let a = access None h in
        let two = left_of (fits (scope_of m f) pointer target && is_scalar t) (not (is_odd t)) a in
        let fitting = left_of (fits (scope_of m f) pointer target) (is_scalar t) two in
        subst Fits (sym (no_slot m f target fitting))
        (by_type t refl scalar (right_of (fits (scope_of m f) pointer target && is_scalar t) (not (is_odd t)) a) h
        (operand_holds m f c.memory rs pointer target (hand.ready target (1, omega arith, refl)) fitting))

  pub store_fits : (over : Ty) (v target : Val) (align : ℕ) → i.act ≡ plain.store over v target align → NextFits m whole (act_on (program_of m) c (step_of m f i) (act_of m f i.act))
  store_fits over v target align is =
      subst (λ a. NextFits m whole (act_on (program_of m) c (step_of m f i) (act_of m f a))) (sym is) (store_goes over v target align is (slot_at (scope_of m f) target) refl)
