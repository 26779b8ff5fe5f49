-- What is kept of types, from what is kept of their parts.
use Rattle.std.proofs.Common.{◌≡◌, ℕ, ◌+◌, ◌<◌, ◌≤◌, max, List, [], ◌∷◌, ◌++◌, Some, length, refl, sym, ◌∙◌, ap, subst, arith}
use Rattle.std.specs.Prelude.{slice_get}
use Rattle.std.proofs.lemmas.List.{append_assoc, append-nil}
use Rattle.ir_ast.specs.Plain.{Ty, Tys, nothing, integer, pointer, array, structure, packed, named, opaque, no_types, type_and}
use Rattle.ir_layout.specs.Sizes.{up_to, size_of, align_of, greatest_align, end_of, packed_end_of}
use Rattle.ir_layout.specs.Facts.{cut}
use Rattle.ir_layout.proofs.Cuts.{cut_up, cut_field}
use Rattle.ir_whole.specs.Heads.{type_at}
use Rattle.ir_measure.specs.declared.measure.Measure.{Measure}
use Rattle.ir_measure.specs.Measures.{offsets_from, packed_offsets_from, measure_of, no_fields, with_field, with_packed, fields_from, packed_from, ended, IsKept, AreMeasured}

pub record IsAlign (n : ℕ) : Type 0 where
  pub some : 0 < n
  pub few : n ≤ 8

integer_align : (w : ℕ) → IsAlign (align_of (integer w))
integer_align w = search (arith)

mutual
  pub align_bounds : (t : Ty) → IsAlign (align_of t)
  align_bounds nothing = record { some = omega arith; few = omega arith }
  align_bounds (integer w) = integer_align w
  align_bounds pointer = record { some = omega arith; few = omega arith }
  align_bounds (array n t) = align_bounds t
  align_bounds (structure ts) = greatest_bounds ts
  align_bounds (packed ts) = record { some = omega arith; few = omega arith }
  align_bounds (named x) = record { some = omega arith; few = omega arith }
  align_bounds opaque = record { some = omega arith; few = omega arith }

  pub greatest_bounds : (ts : Tys) → IsAlign (greatest_align ts)
  greatest_bounds no_types = record { some = omega arith; few = omega arith }
  greatest_bounds (type_and t ts) = greater (align_of t) (greatest_align ts) (align_bounds t) (greatest_bounds ts)
    where
      greater : (m n : ℕ) → IsAlign m → IsAlign n → IsAlign (max m n)
      greater m n a b = record { some = omega (arith, a.some, b.some); few = omega (arith, a.few, b.few) }

pub kept_measure : (t : Ty) → IsKept (measure_of t)
kept_measure t = let a = align_bounds t in record { some = a.some; few = a.few; cut_off = omega arith }

same_some : {A : Type 0} (a b : A) → Some a ≡ Some b → a ≡ b
same_some a b e = cc

pub measured_at : (types : List Ty) (measures : List Measure) (k : ℕ) (m : Measure) → AreMeasured types measures → k < length measures → slice_get measures k ≡ Some m → m ≡ measure_of (type_at types k)
measured_at types measures k m are l e = same_some m (measure_of (type_at types k)) (sym e ∙ are.each k l)

pub kept_measured : (m : Measure) (t : Ty) → m ≡ measure_of t → IsKept m
kept_measured m t e = subst IsKept (sym e) (kept_measure t)

-- ---- fields behind so many bytes, of which the number is cut

cut_twice : (n : ℕ) → cut (cut n) ≡ cut n
cut_twice n = omega arith

pub same_end : (at at' : ℕ) (ts : Tys) → cut at ≡ cut at' → cut (end_of at ts) ≡ cut (end_of at' ts)
same_end at at' no_types e = e
same_end at at' (type_and t ts) e = same_end (up_to (align_of t) at + size_of t) (up_to (align_of t) at' + size_of t) ts (step (align_of t) (size_of t) (align_bounds t).some)
  where
    step : (a s : ℕ) → 0 < a → cut (up_to a at + s) ≡ cut (up_to a at' + s)
    step a s l = sym (cut_field a at s l) ∙ ap (λ x. cut (up_to a x + cut s)) e ∙ cut_field a at' s l

pub same_packed_end : (at at' : ℕ) (ts : Tys) → cut at ≡ cut at' → cut (packed_end_of at ts) ≡ cut (packed_end_of at' ts)
same_packed_end at at' no_types e = e
same_packed_end at at' (type_and t ts) e = same_packed_end (at + size_of t) (at' + size_of t) ts (omega (arith, e))

pub same_offsets : (at at' : ℕ) (ts : Tys) → cut at ≡ cut at' → offsets_from at ts ≡ offsets_from at' ts
same_offsets at at' no_types e = refl
same_offsets at at' (type_and t ts) e =
    ap (λ x. x ∷ offsets_from (up_to (align_of t) at + size_of t) ts) (first (align_of t) (align_bounds t).some)
    ∙ ap (λ xs. cut (up_to (align_of t) at') ∷ xs) (same_offsets (up_to (align_of t) at + size_of t) (up_to (align_of t) at' + size_of t) ts (step (align_of t) (size_of t) (align_bounds t).some))
  where
    first : (a : ℕ) → 0 < a → cut (up_to a at) ≡ cut (up_to a at')
    first a l = sym (cut_up a at l) ∙ ap (λ x. cut (up_to a x)) e ∙ cut_up a at' l

    step : (a s : ℕ) → 0 < a → cut (up_to a at + s) ≡ cut (up_to a at' + s)
    step a s l = sym (cut_field a at s l) ∙ ap (λ x. cut (up_to a x + cut s)) e ∙ cut_field a at' s l

pub same_packed_offsets : (at at' : ℕ) (ts : Tys) → cut at ≡ cut at' → packed_offsets_from at ts ≡ packed_offsets_from at' ts
same_packed_offsets at at' no_types e = refl
same_packed_offsets at at' (type_and t ts) e =
    ap (λ x. x ∷ packed_offsets_from (at + size_of t) ts) e
    ∙ ap (λ xs. cut at' ∷ xs) (same_packed_offsets (at + size_of t) (at' + size_of t) ts (omega (arith, e)))

-- ---- all fields

pub from_size : (all : Measure) (ts : Tys) → cut (fields_from all ts).size ≡ cut (end_of all.size ts)
from_size all no_types = refl
from_size all (type_and t ts) =
    from_size (with_field all (measure_of t)) ts ∙ same_end (cut (up_to (align_of t) all.size + cut (size_of t))) (up_to (align_of t) all.size + size_of t) ts (step (align_of t) all.size (size_of t))
  where
    step : (a at s : ℕ) → cut (cut (up_to a at + cut s)) ≡ cut (up_to a at + s)
    step a at s = sides (up_to a at) s
      where
        sides : (x s : ℕ) → cut (cut (x + cut s)) ≡ cut (x + s)
        sides x s = omega arith

pub from_align : (all : Measure) (ts : Tys) → 0 < all.align → (fields_from all ts).align ≡ max all.align (greatest_align ts)
from_align all no_types l = most all.align l
  where
    most : (n : ℕ) → 0 < n → n ≡ max n 1
    most n l = omega (arith, l)
from_align all (type_and t ts) l =
    from_align (with_field all (measure_of t)) ts (more all.align (align_of t) l) ∙ three all.align (align_of t) (greatest_align ts)
  where
    more : (m n : ℕ) → 0 < m → 0 < max m n
    more m n l = omega (arith, l)

    three : (a b c : ℕ) → max (max a b) c ≡ max a (max b c)
    three a b c = omega arith

pub from_offsets : (all : Measure) (ts : Tys) → (fields_from all ts).offsets ≡ all.offsets ++ offsets_from all.size ts
from_offsets all no_types = sym (append-nil all.offsets)
from_offsets all (type_and t ts) =
    from_offsets (with_field all (measure_of t)) ts
    ∙ ap (λ xs. (all.offsets ++ cut (up_to (align_of t) all.size) ∷ []) ++ xs) (same_offsets (cut (up_to (align_of t) all.size + cut (size_of t))) (up_to (align_of t) all.size + size_of t) ts (sides (up_to (align_of t) all.size) (size_of t)))
    ∙ append_assoc all.offsets (cut (up_to (align_of t) all.size) ∷ []) (offsets_from (up_to (align_of t) all.size + size_of t) ts)
  where
    sides : (x s : ℕ) → cut (cut (x + cut s)) ≡ cut (x + s)
    sides x s = omega arith

pub packed_size : (all : Measure) (ts : Tys) → cut (packed_from all ts).size ≡ cut (packed_end_of all.size ts)
packed_size all no_types = refl
packed_size all (type_and t ts) =
    packed_size (with_packed all (measure_of t)) ts ∙ same_packed_end (cut (all.size + cut (size_of t))) (all.size + size_of t) ts (sides all.size (size_of t))
  where
    sides : (x s : ℕ) → cut (cut (x + cut s)) ≡ cut (x + s)
    sides x s = omega arith

pub packed_align : (all : Measure) (ts : Tys) → all.align ≡ 1 → (packed_from all ts).align ≡ 1
packed_align all no_types e = e
packed_align all (type_and t ts) e = packed_align (with_packed all (measure_of t)) ts refl

pub packed_offsets : (all : Measure) (ts : Tys) → cut all.size ≡ all.size → (packed_from all ts).offsets ≡ all.offsets ++ packed_offsets_from all.size ts
packed_offsets all no_types e = sym (append-nil all.offsets)
packed_offsets all (type_and t ts) e =
    packed_offsets (with_packed all (measure_of t)) ts (cut_twice (all.size + cut (size_of t)))
    ∙ ap (λ xs. (all.offsets ++ all.size ∷ []) ++ xs) (same_packed_offsets (cut (all.size + cut (size_of t))) (all.size + size_of t) ts (sides all.size (size_of t)))
    ∙ append_assoc all.offsets (all.size ∷ []) (packed_offsets_from (all.size + size_of t) ts)
    ∙ ap (λ x. all.offsets ++ x ∷ packed_offsets_from (all.size + size_of t) ts) (sym e)
  where
    sides : (x s : ℕ) → cut (cut (x + cut s)) ≡ cut (x + s)
    sides x s = omega arith

same_measure : (m : Measure) (size align : ℕ) (offsets : List ℕ) → m.size ≡ size → m.align ≡ align → m.offsets ≡ offsets → m ≡ record { size = size; align = align; offsets = offsets }
same_measure m size align offsets a b c =
    ap (λ x. record { size = x; align = m.align; offsets = m.offsets }) a
    ∙ ap (λ x. record { size = size; align = x; offsets = m.offsets }) b
    ∙ ap (λ x. record { size = size; align = align; offsets = x }) c

-- the measure of a struct, and of a packed one
pub ended_is : (all : Measure) (ts : Tys) → all ≡ fields_from no_fields ts → ended all ≡ measure_of (structure ts)
ended_is all ts e = same_measure (ended all) _ _ _ size align offsets
  where
    align : all.align ≡ greatest_align ts
    align = ap (λ (m : Measure). m.align) e ∙ from_align no_fields ts (omega arith) ∙ most (greatest_align ts) (greatest_bounds ts).some
      where
        most : (n : ℕ) → 0 < n → max 1 n ≡ n
        most n l = omega (arith, l)

    ends : cut all.size ≡ cut (end_of 0 ts)
    ends = ap (λ (m : Measure). cut m.size) e ∙ from_size no_fields ts

    size : cut (up_to all.align all.size) ≡ cut (up_to (greatest_align ts) (end_of 0 ts))
    size =
        ap (λ a. cut (up_to a all.size)) align
        ∙ sym (cut_up (greatest_align ts) all.size (greatest_bounds ts).some)
        ∙ ap (λ n. cut (up_to (greatest_align ts) n)) ends
        ∙ cut_up (greatest_align ts) (end_of 0 ts) (greatest_bounds ts).some

    offsets : all.offsets ≡ offsets_from 0 ts
    offsets = ap (λ (m : Measure). m.offsets) e ∙ from_offsets no_fields ts

pub packed_is : (all : Measure) (ts : Tys) → IsKept all → all ≡ packed_from no_fields ts → all ≡ measure_of (packed ts)
packed_is all ts kept e = same_measure all _ _ _ size align offsets
  where
    uncut : (n : ℕ) → n ≤ 4294967297 → n ≡ cut n
    uncut n l = omega (arith, l)

    size : all.size ≡ cut (packed_end_of 0 ts)
    size = uncut all.size kept.cut_off ∙ ap (λ (m : Measure). cut m.size) e ∙ packed_size no_fields ts

    align : all.align ≡ 1
    align = ap (λ (m : Measure). m.align) e ∙ packed_align no_fields ts refl

    offsets : all.offsets ≡ packed_offsets_from 0 ts
    offsets = ap (λ (m : Measure). m.offsets) e ∙ packed_offsets no_fields ts refl
