-- What is kept of a whole type: its size, its alignment, and where its fields stand. Sizes and offsets over 2^32 count as 2^32 + 1.
use Rattle.std.specs.Prelude.{◌≡◌, ℕ, ◌+◌, ◌<◌, ◌≤◌, max, List, [], ◌∷◌, ◌++◌, Option, Some, None, nat_lt, if◌then◌else◌, length, slice_get}
use Rattle.ir_ast.specs.Plain.{Ty, Tys, structure, packed, no_types, type_and}
use Rattle.ir_layout.specs.Sizes.{up_to, size_of, align_of, field_offset}
use Rattle.ir_layout.specs.Facts.{cut}
use Rattle.ir_layout.specs.Offsets.{fields_in}
use Rattle.ir_whole.specs.Heads.{type_at}
use Rattle.ir_measure.specs.declared.measure.Measure.{Measure}

-- where fields stand that begin behind so many bytes
abbrev pub offsets_from : ℕ → Tys → List ℕ
offsets_from at no_types = []
offsets_from at (type_and t ts) = cut (up_to (align_of t) at) ∷ offsets_from (up_to (align_of t) at + size_of t) ts

abbrev pub packed_offsets_from : ℕ → Tys → List ℕ
packed_offsets_from at no_types = []
packed_offsets_from at (type_and t ts) = cut at ∷ packed_offsets_from (at + size_of t) ts

abbrev pub offsets_of : Ty → List ℕ
offsets_of (structure ts) = offsets_from 0 ts
offsets_of (packed ts) = packed_offsets_from 0 ts
offsets_of _ = []

abbrev pub measure_of : Ty → Measure
measure_of t = record { size = cut (size_of t); align = align_of t; offsets = offsets_of t }

-- the bytes before a field; sizes and offsets over 2^32, which no kernel that was laid out has, count as 2^32 + 1
abbrev pub offset_at : Ty → ℕ → Option ℕ
offset_at t k = if nat_lt k (fields_in t) then Some (cut (field_offset t k)) else None

-- ---- field by field; the size is where the fields so far end

abbrev pub no_fields : Measure
no_fields = record { size = 0; align = 1; offsets = [] }

abbrev pub with_field : Measure → Measure → Measure
with_field all f = record {
  size = cut (up_to f.align all.size + f.size);
  align = max all.align f.align;
  offsets = all.offsets ++ cut (up_to f.align all.size) ∷ [];
}

abbrev pub with_packed : Measure → Measure → Measure
with_packed all f = record {
  size = cut (all.size + f.size);
  align = 1;
  offsets = all.offsets ++ all.size ∷ [];
}

abbrev pub fields_from : Measure → Tys → Measure
fields_from all no_types = all
fields_from all (type_and t ts) = fields_from (with_field all (measure_of t)) ts

abbrev pub packed_from : Measure → Tys → Measure
packed_from all no_types = all
packed_from all (type_and t ts) = packed_from (with_packed all (measure_of t)) ts

-- the struct of all fields
abbrev pub ended : Measure → Measure
ended all = record { size = cut (up_to all.align all.size); align = all.align; offsets = all.offsets }

-- a measure is in bounds
pub record IsKept (m : Measure) : Type 0 where
  pub some : 0 < m.align
  pub few : m.align ≤ 8
  pub cut_off : m.size ≤ 4294967297

-- these are kept of the first types
pub record AreMeasured (types : List Ty) (measures : List Measure) : Type 0 where
  pub some : 0 < length measures
  pub few : length measures ≤ length types
  pub each : (k : ℕ) → k < length measures → slice_get measures k ≡ Some (measure_of (type_at types k))
