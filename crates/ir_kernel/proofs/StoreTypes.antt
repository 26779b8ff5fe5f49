-- Stores of values of their types, and parts of pairs.
use Rattle.std.proofs.Common.{◌≡◌, ℕ, zero, suc, length, ◌+◌, ◌*◌, ◌%◌, ◌≤◌, ◌==◌, ◌&&◌, nat_le, Bool, true, false, not, if◌then◌else◌, Option, Some, None, List, refl, sym, subst, arith}
use Rattle.std.proofs.lemmas.Bool.{le-leb}
use Rattle.ir_ast.specs.Plain.{Ty, Tys, integer, pointer, structure, no_types, type_and}
use Rattle.ir_type.specs.Whole.{is_scalar, is_same, is_memory_width}
use Rattle.ir_typing.specs.Intrinsics.{number_and_bit}
use Rattle.ir_typing.specs.Registers as registers
use Rattle.ir_layout.specs.Bytes.{object_of}
use Rattle.ir_layout.specs.Sizes.{written_or}
use Rattle.ir_value.specs.declared.value.Value.{Value}
use Rattle.ir_value.specs.declared.value.Value.TheVariants.{Number, Null, Address, Poison}
use Rattle.ir_value.specs.declared.value.StuckReason.TheVariants.{U6, U7, U13}
use Rattle.ir_value.specs.declared.access.Access.{Access}
use Rattle.ir_value.specs.declared.access.Access.TheVariants.{At, Not, Nowhere}
use Rattle.ir_value.specs.Numbers.{is_width, is_number}
use Rattle.ir_value.specs.Pointers.{reach_of}
use Rattle.ir_code.specs.declared.program.Object.{Object}
use Rattle.ir_machine.specs.declared.state.Held.{Held}
use Rattle.ir_machine.specs.declared.state.Held.TheVariants as held
use Rattle.ir_machine.specs.declared.state.Computed.TheVariants.{Sticks}
use Rattle.ir_machine.specs.declared.state.Written.TheVariants as written
use Rattle.ir_machine.specs.Values.{object_at, reached, is_aligned, part_of}
use Rattle.ir_machine.specs.Step.{put_value, store_to, stored, put_slot, slot_stored}
use Rattle.ir_resolve.specs.Acts.{bytes_of}
use Rattle.ir_walk.specs.Walk.{Memory}
use Rattle.ir_kernel.specs.Typed.{is_of, are_parts, IsValueOf, IsSetTo}
use Rattle.ir_kernel.specs.Steps.{IsWritten, HoldsSlot, GivesOf}
use Rattle.ir_kernel.proofs.OperandTypes.{same_type}
use Rattle.ir_kernel.proofs.LoadTypes.{left_of, right_of, width_cases}

-- ---- slots

same_on : (t over : Ty) (v : Value) → is_scalar t ≡ true → is_same t over ≡ true → is_of t v ≡ true → is_of over v ≡ true
same_on t (integer w) v s e x = same_type t (integer w) v refl e x
same_on t pointer v s e x = same_type t pointer v refl e x
same_on (integer w) over v s e x = absurd cc
same_on pointer over v s e x = absurd cc
same_on t over v s e x = absurd cc

put_holds : (over : Ty) (align : ℕ) (v : Value) → is_of over v ≡ true → HoldsSlot over (put_slot align v)
put_holds over align (Number n) x = x
put_holds over align Null x = x
put_holds over align (Address o z) x = x
put_holds over align Poison x = tt

pub slot_holds : (t over : Ty) (align : ℕ) (v : Option Value) (h : Option Held) → IsValueOf t v → is_scalar t ≡ true → is_same t over ≡ true → IsSetTo (registers.slot_of over) h
    → HoldsSlot over (slot_stored align v h)
slot_holds t over align None h x s e k = absurd x
slot_holds t over align (Some v) None x s e k = absurd k
slot_holds t over align (Some v) (Some (held.Value u)) x s e k = absurd cc
slot_holds t over align (Some v) (Some (held.Pair a b)) x s e k = absurd cc
slot_holds t over align (Some v) (Some (held.Slot slot_align was)) x s e k = by (is_aligned align slot_align)
  where
    by : (b : Bool) → HoldsSlot over (if b then put_slot slot_align v else Sticks U7)
    by true = put_holds over slot_align v (same_on t over v s e x)
    by false = tt

-- ---- memory

module _ (objects : List Object) (bytes : ℕ) (v : Value) (puts : (o x : ℕ) → IsWritten (put_value bytes o x v)) where
  abbrev W : Access → Type 0
  W a = IsWritten (store_to objects bytes v a)

  one_way : (b : Bool) (x y : Access) → W x → W y → W (if b then x else y)
  one_way true x y h k = h
  one_way false x y h k = k

  at_written : (o x : ℕ) → W (At o x)
  at_written o x = by (object_at objects o).constant
    where
      by : (b : Bool) → IsWritten (if b then written.Sticks U13 else put_value bytes o x v)
      by true = tt
      by false = puts o x

  reached_written : (memory : Memory) (align : ℕ) (a : Value) → nat_le 1 align ≡ true → is_of pointer a ≡ true → W (reached memory objects bytes align a)
  reached_written memory align (Number n) l h = absurd cc
  reached_written memory align Null l h = tt
  reached_written memory align Poison l h = tt
  reached_written memory align (Address o x) l h =
      let size = length (object_of memory o) in
      let own = (object_at objects o).align in
      let b = not ((x % align == 0) && (own % align == 0)) in
      subst (λ b. W (if b then reach_of size own bytes align o x else Nowhere)) (sym l)
      (one_way (not (nat_le (x + bytes) size)) (Not U6) (if b then Not U7 else At o x) tt (one_way b (Not U7) (At o x) tt (at_written o x)))

put_written : (w bytes : ℕ) (v : Value) → is_width (8 * bytes) ≡ true → 8 * bytes ≡ w → is_of (integer w) v ≡ true → (o x : ℕ) → IsWritten (put_value bytes o x v)
put_written w bytes (Number n) k e h o x =
    subst (λ b. IsWritten (if b then written.Puts o x n else written.Lost)) (sym (both (is_width (8 * bytes)) (is_number (8 * bytes) n) k (subst (λ w. is_number w n ≡ true) (sym e) h))) tt
  where
    both : (a b : Bool) → a ≡ true → b ≡ true → (a && b) ≡ true
    both true b p q = q
    both false b p q = absurd cc
put_written w bytes Poison k e h o x = tt
put_written w bytes Null k e h o x = absurd cc
put_written w bytes (Address q z) k e h o x = absurd cc

written_align : (align w : ℕ) → is_memory_width w ≡ true → nat_le 1 (written_or align (integer w)) ≡ true
written_align zero w e = width_cases (λ w. nat_le 1 (written_or zero (integer w)) ≡ true) w e refl refl refl refl
written_align (suc n) w e = le-leb 1 (suc n) (omega arith)

pub memory_written : (w align : ℕ) (memory : Memory) (objects : List Object) (v a : Option Value) → is_memory_width w ≡ true → IsValueOf (integer w) v → IsValueOf pointer a
    → IsWritten (stored memory objects (bytes_of (integer w)) (written_or align (integer w)) v a)
memory_written w align memory objects None a e x y = absurd x
memory_written w align memory objects (Some v) None e x y = absurd y
memory_written w align memory objects (Some v) (Some a) e x y =
    width_cases (λ w. nat_le 1 (written_or align (integer w)) ≡ true → is_of (integer w) v ≡ true → IsWritten (stored memory objects (bytes_of (integer w)) (written_or align (integer w)) (Some v) (Some a))) w e
    (λ l h. reached_written objects 1 v (put_written 8 1 v refl refl h) memory (written_or align (integer 8)) a l y)
    (λ l h. reached_written objects 2 v (put_written 16 2 v refl refl h) memory (written_or align (integer 16)) a l y)
    (λ l h. reached_written objects 4 v (put_written 32 4 v refl refl h) memory (written_or align (integer 32)) a l y)
    (λ l h. reached_written objects 8 v (put_written 64 8 v refl refl h) memory (written_or align (integer 64)) a l y)
    (written_align align w e) x

-- ---- parts of pairs

parts_given : (w part : ℕ) (ts : Tys) (a b : Value) → part ≤ 1 → is_same (structure ts) (number_and_bit w) ≡ true → are_parts (structure ts) a b ≡ true
    → GivesOf (if part == 0 then integer w else integer 1) (part_of part (Some (held.Pair a b)))
parts_given w zero (type_and t (type_and u no_types)) a b l e h =
    same_type t (integer w) a refl (left_of (is_same t (integer w)) (is_same u (integer 1) && true) e) (left_of (is_of t a) (is_of u b) h)
parts_given w (suc zero) (type_and t (type_and u no_types)) a b l e h =
    same_type u (integer 1) b refl (left_of (is_same u (integer 1)) true (right_of (is_same t (integer w)) (is_same u (integer 1) && true) e)) (right_of (is_of t a) (is_of u b) h)
parts_given w (suc (suc n)) ts a b l e h = absurd (omega (arith, l))
parts_given w part no_types a b l e h = absurd cc
parts_given w part (type_and t no_types) a b l e h = absurd cc
parts_given w part (type_and t (type_and u (type_and r ts))) a b l e h = absurd cc

pub part_gives : (w part : ℕ) (t : Ty) (h : Option Held) → part ≤ 1 → is_same t (number_and_bit w) ≡ true → IsSetTo (registers.pair_of t) h
    → GivesOf (if part == 0 then integer w else integer 1) (part_of part h)
part_gives w part (structure ts) (Some (held.Pair a b)) l e h = parts_given w part ts a b l e h
part_gives w part (structure ts) (Some (held.Value v)) l e h = absurd cc
part_gives w part (structure ts) (Some (held.Slot align was)) l e h = absurd cc
part_gives w part (structure ts) None l e h = absurd h
part_gives w part t h l e k = absurd cc
