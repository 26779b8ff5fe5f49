-- The size of the cells of an object: by its size, and by where integers stand in its type.
use Rattle.std.specs.Prelude.{◌≡◌, ℕ, ◌+◌, ◌*◌, ◌/◌, ◌%◌, ◌≤◌, min, nat_eq, if◌then◌else◌, Some, List, [], ◌∷◌, ◌++◌, flat_map, slice_get}
use Rattle.std.specs.List.{range_with_len}
use Rattle.ir_ast.specs.Plain.{Ty, Tys, integer, array, structure, packed, no_types, type_and}
use Rattle.ir_ast.specs.Program.{GlobalView, ModuleView}
use Rattle.ir_type.specs.Whole.{meant}
use Rattle.ir_layout.specs.Bytes.{IsWidth}
use Rattle.ir_layout.specs.Sizes.{up_to, size_of, align_of, object_size}
use Rattle.hk_symmem.specs.Origins.{Origin, cells}

-- the integers of a type that stands behind so many bytes: the offset and the size of each
abbrev mutual
  pub leaves : ℕ → Ty → List (ℕ × ℕ)
  leaves at (integer w) = (at, w / 8) ∷ []
  leaves at (array n t) = flat_map (λ k. leaves (at + k * size_of t) t) (range_with_len 0 n)
  leaves at (structure ts) = field_leaves at 0 ts
  leaves at (packed ts) = packed_leaves at 0 ts
  leaves at _ = []

  -- those of fields of a struct, behind so many bytes of it: each field stands at the next multiple of its alignment
  pub field_leaves : ℕ → ℕ → Tys → List (ℕ × ℕ)
  field_leaves at end no_types = []
  field_leaves at end (type_and t ts) = leaves (at + up_to (align_of t) end) t ++ field_leaves at (up_to (align_of t) end + size_of t) ts

  -- the same without gaps
  pub packed_leaves : ℕ → ℕ → Tys → List (ℕ × ℕ)
  packed_leaves at end no_types = []
  packed_leaves at end (type_and t ts) = leaves (at + end) t ++ packed_leaves at (end + size_of t) ts

-- a number divides the offset and the size of each leaf
abbrev pub DividesAll : ℕ → List (ℕ × ℕ) → Type 0
DividesAll c [] = Unit {0}
DividesAll c (l ∷ ls) = (l.0 % c ≡ 0) × (l.1 % c ≡ 0) × DividesAll c ls

-- the greatest of 1, 2, 4 and 8 that divides the size of an object, and the offset and the size of each of its leaves
pub record IsCellSize (size : ℕ) (ls : List (ℕ × ℕ)) (c : ℕ) : Type 0 where
  pub width : IsWidth c
  pub whole : size % c ≡ 0
  pub each : DividesAll c ls
  pub greatest : (d : ℕ) → IsWidth d → size % d ≡ 0 → DividesAll d ls → d ≤ c

-- each object that is no constant has cells of its cell size
abbrev pub HaveCellSizes : ModuleView → List Origin → Type 0
HaveCellSizes m origins = (k size c : ℕ) (g : List ℕ × GlobalView) → slice_get m.globals k ≡ Some g → slice_get origins k ≡ Some (cells size c)
    → IsCellSize (object_size m.types g.1) (leaves 0 (meant m.types g.1.over)) c

-- ---- the same by the sizes of integers alone, since where they stand follows from these

-- the greatest of 1, 2, 4 and 8 that divides a number
abbrev pub unit : ℕ → ℕ
unit n = if nat_eq (n % 8) 0 then 8 else if nat_eq (n % 4) 0 then 4 else if nat_eq (n % 2) 0 then 2 else 1

abbrev mutual
  pub cell_of : Ty → ℕ
  cell_of (integer w) = unit (w / 8)
  cell_of (array n t) = if nat_eq n 0 then 8 else cell_of t
  cell_of (structure ts) = least_cell ts
  cell_of (packed ts) = least_cell ts
  cell_of _ = 8

  pub least_cell : Tys → ℕ
  least_cell no_types = 8
  least_cell (type_and t ts) = min (cell_of t) (least_cell ts)
