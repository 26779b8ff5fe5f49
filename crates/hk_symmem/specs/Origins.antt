-- Where the first bytes of objects come from, and the machine state that the arrays of a reading give.
use Rattle.std.specs.Prelude.{◌≡◌, ℕ, ◌+◌, ◌*◌, ◌/◌, ◌%◌, ◌^◌, ◌<◌, true, false, List, [], ◌∷◌, map, length}
use Rattle.std.specs.List.{All, range_with_len}
use Rattle.ir_layout.specs.Bytes.{IsWidth}
use Rattle.ir_layout.specs.declared.object.Object.{Object}

-- the bytes of a constant; so many bytes of an array, whose entries are cells of 1, 2, 4 or 8 bytes
pub data Origin : Type 0 where
  fixed : (bytes : List ℕ) → Origin
  cells : (size cell : ℕ) → Origin

-- byte i of an array of cells of c bytes, the low byte of each cell first
abbrev pub cell_byte : ℕ → (ℕ → ℕ) → ℕ → ℕ
cell_byte c array i = array (i / c) % 2 ^ (8 * c) / 256 ^ (i % c) % 256

abbrev pub object_from : Origin → (ℕ → ℕ) → List ℕ
object_from (fixed bytes) array = bytes
object_from (cells size c) array = map (cell_byte c array) (range_with_len 0 size)

-- objects from a number on: the array of an object has the object's number
abbrev pub objects_from : ℕ → List Origin → (ℕ → ℕ → ℕ) → List (List ℕ)
objects_from o [] entry = []
objects_from o (x ∷ xs) entry = object_from x (entry o) ∷ objects_from (o + 1) xs entry

-- the initial memory that the entries of arrays give
abbrev pub start_memory : List Origin → (ℕ → ℕ → ℕ) → List (List ℕ)
start_memory origins entry = objects_from 0 origins entry

-- where the bytes of an object of a layout may come from: a constant's are its initial bytes
abbrev pub IsOriginOf : Object → Origin → Type 0
IsOriginOf o (fixed bytes) = (o.constant ≡ true) × (bytes ≡ o.bytes)
IsOriginOf o (cells size c) = (o.constant ≡ false) × (size ≡ o.size) × IsWidth c

abbrev pub AreOriginsOf : List Object → List Origin → Type 0
AreOriginsOf [] [] = Unit {0}
AreOriginsOf [] (x ∷ xs) = ⊥
AreOriginsOf (o ∷ os) [] = ⊥
AreOriginsOf (o ∷ os) (x ∷ xs) = IsOriginOf o x × AreOriginsOf os xs

-- what an object may hold in a machine state: as many bytes as its size, and a constant its initial bytes
pub record IsObjectState (o : Object) (bytes : List ℕ) : Type 0 where
  pub whole : length bytes ≡ o.size
  pub small : All (λ b. b < 256) bytes
  pub constant : o.constant ≡ true → bytes ≡ o.bytes

-- a machine state of these objects
abbrev pub IsMachineState : List Object → List (List ℕ) → Type 0
IsMachineState [] [] = Unit {0}
IsMachineState [] (b ∷ bs) = ⊥
IsMachineState (o ∷ os) [] = ⊥
IsMachineState (o ∷ os) (b ∷ bs) = IsObjectState o b × IsMachineState os bs
