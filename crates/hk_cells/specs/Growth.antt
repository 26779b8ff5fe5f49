-- What stays of a list of terms as it grows, and how many entries of arrays are read.
use Rattle.std.specs.Prelude.{◌≡◌, ℕ, ◌<◌, ◌≤◌, Bool, true, false, List, length, filter}
use Rattle.hk_term.specs.Shape.{width, Grows}
use Rattle.hk_term.specs.Meaning.{Reading, value}
use Rattle.hk_term.specs.declared.node.Node.{Node}
use Rattle.hk_term.specs.declared.node.Node.TheVariants.{Select}

-- the list grew at its end alone, and each earlier term has its width and its values
pub record Extends (old new : List Node) : Type 0 where
  pub longer : length old ≤ length new
  pub widths : (k : ℕ) → k < length old → width new k ≡ width old k
  pub values : (k : ℕ) → k < length old → (v : Reading) → value new k v ≡ value old k v
  pub grows : (base : List Node) → Grows base old → Grows base new

-- a term of the list of a width, in bits
abbrev pub IsWord : List Node → ℕ → ℕ → Type 0
IsWord nodes w t = (t < length nodes) × (width nodes t ≡ w)

abbrev pub is_select : Node → Bool
is_select (Select array width index) = true
is_select _ = false

-- how many nodes of a list are entries of arrays
abbrev pub selects_in : List Node → ℕ
selects_in nodes = length (filter is_select nodes)
