-- Where fields stand, one by one and all at once.
use Rattle.std.proofs.Common.{◌≡◌, ℕ, zero, suc, ◌+◌, Some, None, ◌∙◌, ap, arith, true, false, nat_lt, if◌then◌else◌}
use Rattle.std.specs.Prelude.{slice_get}
use Rattle.ir_ast.specs.Plain.{Ty, Tys, nothing, integer, pointer, array, structure, packed, named, opaque, no_types, type_and}
use Rattle.ir_layout.specs.Sizes.{up_to, size_of, align_of, offset_in, packed_offset_in}
use Rattle.ir_layout.specs.Facts.{cut}
use Rattle.ir_layout.specs.Offsets.{count_in}
use Rattle.ir_measure.specs.declared.measure.Measure.{Measure}
use Rattle.ir_measure.specs.Measures.{offsets_from, packed_offsets_from, offsets_of, offset_at, measure_of}

none : {A : Type 0} (k : ℕ) (a : A) → None ≡ (if nat_lt k 0 then Some a else None)
none k a = ap (λ b. if b then Some a else None) past
  where
    past : false ≡ nat_lt k 0
    past = grind arith

some : {A : Type 0} (n : ℕ) (a : A) → Some a ≡ (if nat_lt 0 (1 + n) then Some a else None)
some n a = ap (λ b. if b then Some a else None) below
  where
    below : true ≡ nat_lt 0 (1 + n)
    below = grind arith

struct_offset : (at : ℕ) (ts : Tys) (k : ℕ) → slice_get (offsets_from at ts) k ≡ (if nat_lt k (count_in ts) then Some (cut (offset_in at ts k)) else None)
struct_offset at no_types k = none k (cut at)
struct_offset at (type_and t ts) zero = some (count_in ts) (cut (up_to (align_of t) at))
struct_offset at (type_and t ts) (suc k) = struct_offset (up_to (align_of t) at + size_of t) ts k ∙ ap (λ b. if b then Some (cut (offset_in at (type_and t ts) (suc k))) else None) (one_more k (count_in ts))
  where
    one_more : (k n : ℕ) → nat_lt k n ≡ nat_lt (suc k) (1 + n)
    one_more k n = grind arith

packed_offset : (at : ℕ) (ts : Tys) (k : ℕ) → slice_get (packed_offsets_from at ts) k ≡ (if nat_lt k (count_in ts) then Some (cut (packed_offset_in at ts k)) else None)
packed_offset at no_types k = none k (cut at)
packed_offset at (type_and t ts) zero = some (count_in ts) (cut at)
packed_offset at (type_and t ts) (suc k) = packed_offset (at + size_of t) ts k ∙ ap (λ b. if b then Some (cut (packed_offset_in at (type_and t ts) (suc k))) else None) (one_more k (count_in ts))
  where
    one_more : (k n : ℕ) → nat_lt k n ≡ nat_lt (suc k) (1 + n)
    one_more k n = grind arith

offset_is : (t : Ty) (k : ℕ) → slice_get (offsets_of t) k ≡ offset_at t k
offset_is nothing k = none k 0
offset_is (integer w) k = none k 0
offset_is pointer k = none k 0
offset_is (array n t) k = none k 0
offset_is (structure ts) k = struct_offset 0 ts k
offset_is (packed ts) k = packed_offset 0 ts k
offset_is (named x) k = none k 0
offset_is opaque k = none k 0

pub offset_there : (m : Measure) (t : Ty) (k : ℕ) → m ≡ measure_of t → slice_get m.offsets k ≡ offset_at t k
offset_there m t k e = ap (λ (m : Measure). slice_get m.offsets k) e ∙ offset_is t k
