-- Size, alignment and field offsets of whole types. The alignments of integers and pointers are this project's; the rest is the LLVM
-- Language Reference's ("Array Type", "Structure Type").
use Rattle.std.specs.Prelude.{ℕ, zero, suc, ◌+◌, ◌-◌, ◌*◌, ◌/◌, max, Option, Some, None, if◌then◌else◌}
use Rattle.ir_ast.specs.Plain.{Ty, Tys, integer, pointer, array, structure, packed, no_types, type_and}
use Rattle.ir_ast.specs.Program.{GlobalView}
use Rattle.ir_type.specs.Whole.{Types, meant, is_memory_width}

-- the next multiple of an alignment
abbrev pub up_to : ℕ → ℕ → ℕ
up_to align n = (n + (align - 1)) / align * align

-- the alignment of a type; 1 for an integer of a width that memory does not have
abbrev mutual
  pub align_of : Ty → ℕ
  align_of (integer w) = if is_memory_width w then w / 8 else 1
  align_of pointer = 8
  align_of (array n t) = align_of t
  align_of (structure ts) = greatest_align ts
  align_of _ = 1

  -- the greatest alignment of some fields, 1 if there is none
  pub greatest_align : Tys → ℕ
  greatest_align no_types = 1
  greatest_align (type_and t ts) = max (align_of t) (greatest_align ts)

-- the size of a type in bytes; it counts for types without integers of other widths
abbrev mutual
  pub size_of : Ty → ℕ
  size_of (integer w) = w / 8
  size_of pointer = 8
  size_of (array n t) = n * size_of t
  size_of (structure ts) = up_to (greatest_align ts) (end_of 0 ts)
  size_of (packed ts) = packed_end_of 0 ts
  size_of _ = 0

  -- where fields end that begin behind so many bytes: each stands at the next multiple of its alignment
  pub end_of : ℕ → Tys → ℕ
  end_of at no_types = at
  end_of at (type_and t ts) = end_of (up_to (align_of t) at + size_of t) ts

  -- the same without gaps
  pub packed_end_of : ℕ → Tys → ℕ
  packed_end_of at no_types = at
  packed_end_of at (type_and t ts) = packed_end_of (at + size_of t) ts

-- where field k stands among fields that begin behind so many bytes
abbrev pub offset_in : ℕ → Tys → ℕ → ℕ
offset_in at no_types k = at
offset_in at (type_and t ts) zero = up_to (align_of t) at
offset_in at (type_and t ts) (suc k) = offset_in (up_to (align_of t) at + size_of t) ts k

abbrev pub packed_offset_in : ℕ → Tys → ℕ → ℕ
packed_offset_in at no_types k = at
packed_offset_in at (type_and t ts) zero = at
packed_offset_in at (type_and t ts) (suc k) = packed_offset_in (at + size_of t) ts k

-- the offset of a field of a struct
abbrev pub field_offset : Ty → ℕ → ℕ
field_offset (structure ts) k = offset_in 0 ts k
field_offset (packed ts) k = packed_offset_in 0 ts k
field_offset _ k = 0

-- an alignment that is written, else that of the type
abbrev pub written_or : ℕ → Ty → ℕ
written_or zero t = align_of t
written_or (suc n) t = suc n

abbrev pub align_if : Option ℕ → Ty → ℕ
align_if None t = align_of t
align_if (Some n) t = written_or n t

abbrev pub object_align : Types → GlobalView → ℕ
object_align types g = align_if g.align (meant types g.over)

abbrev pub object_size : Types → GlobalView → ℕ
object_size types g = size_of (meant types g.over)
