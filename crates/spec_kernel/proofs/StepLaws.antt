-- Steps into shapes by number.
use Rattle.std.proofs.Common.{◌≡◌, ℕ, zero, suc, ◌+◌, ◌<◌, ◌≤◌, true, nat_lt, Option, Some, None, option_map, List, [], ◌∷◌, sym, ◌∙◌, ap, subst, arith}
use Rattle.std.specs.Prelude.{if◌then◌else◌, slice_get, map}
use Rattle.std.specs.List.{All}
use Rattle.std.proofs.lemmas.List.Elements.{All-head, All-tail}
use Rattle.ir_ast.specs.Plain.{Ty, Tys, nothing, integer, pointer, array, structure, packed, named, opaque, no_types, type_and}
use Rattle.ir_type.proofs.Places.{some_same}
use Rattle.ir_whole.specs.Questions.{field_in, field_of}
use Rattle.ir_layout.specs.Sizes.{size_of, field_offset, offset_in, packed_offset_in, packed_end_of}
use Rattle.ir_layout.specs.Facts.{cut}
use Rattle.ir_layout.specs.Offsets.{count_in, fields_in}
use Rattle.ir_layout.specs.Laws.{field_type}
use Rattle.ir_layout.proofs.SizeLaws.{within, packed_within}
use Rattle.ir_measure.specs.declared.shapes.Shapes.{Shapes}
use Rattle.ir_measure.specs.Shaped.{type_in}
use Rattle.ir_measure.specs.Measures.{offset_at}
use Rattle.spec_names.specs.Kernel.{part_of}
use Rattle.spec_kernel.specs.declared.steps.Part.{Part}
use Rattle.spec_kernel.specs.declared.rows.GlobalRow.{GlobalRow}
use Rattle.spec_kernel.specs.Bounded.{IsBounded, AreBounded}
use Rattle.spec_kernel.specs.Seen.{SeenGlobal, see_global, shape_at, IsShape}
use Rattle.spec_kernel.specs.Steps.{view_part}
use Rattle.spec_kernel.proofs.ShapeLaws.{part_behind, part_shape}

-- ---- fields of bounded types

bounded_size : (t : Ty) → IsBounded t → size_of t ≤ 4294967296
bounded_size nothing h = h
bounded_size (integer w) h = h
bounded_size pointer h = h
bounded_size (array n t) h = h.0
bounded_size (structure ts) h = h.0
bounded_size (packed ts) h = h.0
bounded_size (named x) h = h
bounded_size opaque h = h

bounded_in : (ts : Tys) (k : ℕ) (u : Ty) → AreBounded ts → field_in k ts ≡ Some u → IsBounded u
bounded_in no_types k u h e = absurd cc
bounded_in (type_and t ts) zero u h e = subst IsBounded (some_same t u e) h.0
bounded_in (type_and t ts) (suc k) u h e = bounded_in ts k u h.1 e

bounded_field : (t : Ty) (k : ℕ) (u : Ty) → IsBounded t → field_of k t ≡ Some u → IsBounded u
bounded_field nothing k u h e = absurd cc
bounded_field (integer w) k u h e = absurd cc
bounded_field pointer k u h e = absurd cc
bounded_field (array n t) k u h e = absurd cc
bounded_field (structure ts) k u h e = bounded_in ts k u h.1 e
bounded_field (packed ts) k u h e = bounded_in ts k u h.1 e
bounded_field (named x) k u h e = absurd cc
bounded_field opaque k u h e = absurd cc

below_in : (ts : Tys) (k : ℕ) (u : Ty) → field_in k ts ≡ Some u → k < count_in ts
below_in no_types k u e = absurd cc
below_in (type_and t ts) zero u e = omega arith
below_in (type_and t ts) (suc k) u e = let r = below_in ts k u e in omega (arith, r)

front : (o s all : ℕ) → o + s ≤ all → o ≤ all
front o s all l = omega (arith, l)

-- a field of a bounded type stands where its offset says, uncut
offset_bound : (t : Ty) (k : ℕ) (u : Ty) → field_of k t ≡ Some u → (k < fields_in t) × (field_offset t k ≤ size_of t)
offset_bound nothing k u e = absurd cc
offset_bound (integer w) k u e = absurd cc
offset_bound pointer k u e = absurd cc
offset_bound (array n t) k u e = absurd cc
offset_bound (structure ts) k u e = let l = below_in ts k u e in (l, front (offset_in 0 ts k) (size_of (field_type ts k)) (size_of (structure ts)) (within ts k l))
offset_bound (packed ts) k u e = let l = below_in ts k u e in (l, front (packed_offset_in 0 ts k) (size_of (field_type ts k)) (packed_end_of 0 ts) (packed_within 0 ts k l))
offset_bound (named x) k u e = absurd cc
offset_bound opaque k u e = absurd cc

uncut : (n m : ℕ) → n ≤ m → m ≤ 4294967296 → cut n ≡ n
uncut n m l h = omega (arith, l, h)

offset_there : (t : Ty) (k : ℕ) (u : Ty) → IsBounded t → field_of k t ≡ Some u → offset_at t k ≡ Some (field_offset t k)
offset_there t k u h e =
    let b = offset_bound t k u e in
    let there : nat_lt k (fields_in t) ≡ true = (let l = b.0 in grind (arith, l)) in
    ap (λ c. if c then Some (cut (field_offset t k)) else None) there ∙ ap Some (uncut (field_offset t k) (size_of t) b.1 (bounded_size t h))

pub part_right : (s : Shapes) (n k part : ℕ) (o : Option ℕ) (r : Option Part) → IsShape s n → Some (type_in s part) ≡ field_of k (type_in s n) → o ≡ offset_at (type_in s n) k
    → r ≡ option_map (λ o. record { offset = o; shape = part }) o → option_map (view_part s) r ≡ part_of k (shape_at s n)
part_right s n k part o r h field offset is =
    ap (option_map (view_part s)) (is ∙ ap (option_map (λ o. record { offset = o; shape = part })) (offset ∙ offset_there (type_in s n) k (type_in s part) h.1 (sym field)))
    ∙ ap (option_map (part_behind (field_offset (type_in s n) k))) field
    ∙ sym (part_shape (type_in s n) k)

pub no_part_right : (s : Shapes) (n k : ℕ) → None ≡ field_of k (type_in s n) → None ≡ part_of k (shape_at s n)
no_part_right s n k field = ap (option_map (part_behind (field_offset (type_in s n) k))) field ∙ sym (part_shape (type_in s n) k)

pub part_known : (s : Shapes) (n k part : ℕ) → IsShape s n → part < n → Some (type_in s part) ≡ field_of k (type_in s n) → IsShape s part
part_known s n k part h less field = ((let l = h.0 in omega (arith, l, less)), bounded_field (type_in s n) k (type_in s part) h.1 (sym field))

-- ---- globals

pub global_known : (s : Shapes) (rows : List GlobalRow) (i : ℕ) (r : GlobalRow) → All (λ (g : SeenGlobal). IsShape s g.shape) (map see_global rows) → slice_get rows i ≡ Some r → IsShape s r.shape
global_known s [] i r all there = absurd cc
global_known s (x ∷ rows) zero r all there =
    subst (λ (z : GlobalRow). IsShape s z.shape) (some_same x r there) (All-head (λ (g : SeenGlobal). IsShape s g.shape) (see_global x) (map see_global rows) all)
global_known s (x ∷ rows) (suc i) r all there = global_known s rows i r (All-tail (λ (g : SeenGlobal). IsShape s g.shape) (see_global x) (map see_global rows) all) there
