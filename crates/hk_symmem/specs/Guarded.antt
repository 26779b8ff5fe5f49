-- Memory as guarded writes over a machine state that a reading gives.
use Rattle.std.specs.Prelude.{◌≡◌, ℕ, zero, suc, ◌+◌, ◌*◌, ◌/◌, ◌%◌, ◌^◌, ◌<◌, ◌≤◌, if◌then◌else◌, nat_eq, List, [], ◌∷◌, ◌++◌, length, slice_get, slice_set, slice_index_or, Some}
use Rattle.std.specs.List.{All}
use Rattle.hk_term.specs.Shape.{width}
use Rattle.hk_term.specs.Meaning.{Reading, value}
use Rattle.hk_term.specs.declared.node.Node.{Node}
use Rattle.ir_layout.specs.Bytes.{IsWidth}
use Rattle.ir_layout.specs.declared.object.Object.{Object}
use Rattle.hk_symmem.specs.declared.write.GuardedWrite.{GuardedWrite}
use Rattle.hk_symmem.specs.Origins.{Origin, cells, start_memory, AreOriginsOf}

-- where the first bytes of each object come from, and the writes to each object, the earliest first
pub record MemoryView : Type 0 where
  pub origins : List Origin
  pub writes : List (List GuardedWrite)

-- the bytes with a number in so many of them from a place on, the low one first; places count modulo 2^64
abbrev pub with_bytes : ℕ → ℕ → ℕ → List ℕ → List ℕ
with_bytes zero at value bytes = bytes
with_bytes (suc n) at value bytes = with_bytes n (at + 1) (value / 256) (slice_set bytes (at % 2 ^ 64) (value % 256))

-- the bytes of an object behind a write: it writes where its guard is true
abbrev pub after_write : List Node → Reading → GuardedWrite → List ℕ → List ℕ
after_write nodes v w bytes =
    if nat_eq (value nodes w.guard v) 1 then with_bytes w.bytes (value nodes w.offset v) (value nodes w.value v) bytes else bytes

abbrev pub after_writes : List Node → Reading → List GuardedWrite → List ℕ → List ℕ
after_writes nodes v [] bytes = bytes
after_writes nodes v (w ∷ ws) bytes = after_writes nodes v ws (after_write nodes v w bytes)

-- the objects, each behind its writes
abbrev pub written : List Node → Reading → List (List GuardedWrite) → List (List ℕ) → List (List ℕ)
written nodes v [] memory = memory
written nodes v (ws ∷ rows) [] = []
written nodes v (ws ∷ rows) (bytes ∷ memory) = after_writes nodes v ws bytes ∷ written nodes v rows memory

-- the memory under a reading
abbrev pub memory_at : List Node → MemoryView → Reading → List (List ℕ)
memory_at nodes m v = written nodes v m.writes (start_memory m.origins v.entry)

-- the terms of a write stand in the list, at their widths
pub record IsWriteOver (nodes : List Node) (w : GuardedWrite) : Type 0 where
  pub guard : w.guard < length nodes
  pub truth : width nodes w.guard ≡ 1
  pub offset : w.offset < length nodes
  pub address : width nodes w.offset ≡ 64
  pub value : w.value < length nodes
  pub bytes : IsWidth w.bytes
  pub number : width nodes w.value ≡ 8 * w.bytes

-- the list holds all terms of the memory
pub record IsOver (nodes : List Node) (m : MemoryView) : Type 0 where
  pub writes : All (λ ws. All (IsWriteOver nodes) ws) m.writes

-- the object exists, and is no constant
abbrev pub IsMutable : MemoryView → ℕ → Type 0
IsMutable m object = (size : ℕ) × (cell : ℕ) × (slice_get m.origins object ≡ Some (cells size cell))

-- a memory of a layout with these objects
abbrev pub IsMemoryOf : List Object → MemoryView → Type 0
IsMemoryOf objects m = AreOriginsOf objects m.origins

-- one more write to an object, behind the others
abbrev pub with_write : MemoryView → ℕ → GuardedWrite → MemoryView
with_write m object w = record m { writes = slice_set m.writes object (slice_index_or m.writes object [] ++ w ∷ []) }

-- what each constructor of terms says of the terms that were there
pub record Keeps (old new : List Node) : Type 0 where
  pub longer : length old ≤ length new
  pub widths : (k : ℕ) → k < length old → width new k ≡ width old k
  pub values : (k : ℕ) → k < length old → (v : Reading) → value new k v ≡ value old k v
