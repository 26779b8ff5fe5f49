-- What expressions read, as a function of a reading of variables and arrays, and what lists of terms keep as they grow.
use Rattle.std.specs.Prelude.{◌≡◌, ℕ, ◌<◌, ◌≤◌, List, length}
use Rattle.hk_term.specs.Shape.{width, Grows}
use Rattle.hk_term.specs.Meaning.{Reading, value}
use Rattle.hk_term.specs.declared.node.Node.{Node}
use Rattle.spec_tree.specs.declared.expr.StateName.{StateName}
use Rattle.spec_tree.specs.declared.expr.StateName.TheVariants.{Old, New}

-- the states, as one list of numbers per field, and the memory, as one list of bytes per object
pub record Source : Type 0 where
  pub old : List (List ℕ)
  pub new : List (List ℕ)
  pub memory : List (List ℕ)

abbrev pub state_in : Source → StateName → List (List ℕ)
state_in s Old = s.old
state_in s New = s.new

-- the second reading is the first but for variables whose ids are not below the limit
pub record Agrees (limit : ℕ) (v u : Reading) : Type 0 where
  pub entry : u.entry ≡ v.entry
  pub var : (id : ℕ) → id < limit → u.var id ≡ v.var id

-- the second list has the terms of the first, with their widths and values; what the first grew from, the second grew from
pub record Keeps (old new : List Node) : Type 0 where
  pub longer : length old ≤ length new
  pub widths : (k : ℕ) → k < length old → width new k ≡ width old k
  pub values : (k : ℕ) → k < length old → (v : Reading) → value new k v ≡ value old k v
  pub grows : (first : List Node) → Grows first old → Grows first new

-- under all readings that differ in variables from an id on alone, the same is read
abbrev pub Rests : ℕ → (Reading → Source) → Reading → Type 0
Rests limit source v = (u : Reading) → Agrees limit v u → source u ≡ source v
