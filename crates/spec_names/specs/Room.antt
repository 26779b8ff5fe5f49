-- Shapes whose leaves are integers that memory has, and lie within the bytes of their object.
use Rattle.std.specs.Prelude.{◌≡◌, ℕ, ◌-◌, ◌*◌, ◌^◌, ◌<◌, ◌≤◌}
use Rattle.spec_names.specs.Kernel.{Shape, word, row, fields, Parts, no_parts, part_and}

abbrev mutual
  -- each integer has 1, 2, 4 or 8 bytes
  pub HasLeaves : Shape → Type 0
  HasLeaves (word n) = (k : ℕ) × (k < 4) × (n ≡ 2 ^ k)
  HasLeaves (row count stride inner) = HasLeaves inner
  HasLeaves (fields parts) = HaveLeaves parts

  pub HaveLeaves : Parts → Type 0
  HaveLeaves no_parts = Unit {0}
  HaveLeaves (part_and offset shape others) = HasLeaves shape × HaveLeaves others

abbrev mutual
  -- each integer lies in so many bytes, where each index is below its count
  pub Lies : Shape → ℕ → Type 0
  Lies (word n) room = n ≤ room
  Lies (row count stride inner) room = (i : ℕ) → i < count → (i * stride ≤ room) × Lies inner (room - i * stride)
  Lies (fields parts) room = LieAll parts room

  pub LieAll : Parts → ℕ → Type 0
  LieAll no_parts room = Unit {0}
  LieAll (part_and offset shape others) room = (offset ≤ room) × Lies shape (room - offset) × LieAll others room
