-- Lists of terms in which each variable and each array is read at one width.
use Rattle.std.specs.Prelude.{◌≡◌, ◌≢◌, ◌<◌, ℕ, Bool, true, false, List, Some, slice_get}
use Rattle.hk_term.specs.declared.node.Node.{Node}
use Rattle.hk_term.specs.declared.node.Node.TheVariants.{Var, Select}
use Rattle.hk_term.specs.Tables.{number_at}

-- the node at a place reads a variable, or an array, at a width
abbrev pub IsVarAt : List Node → ℕ → ℕ → ℕ → Type 0
IsVarAt nodes k id size = slice_get nodes k ≡ Some (Var size id)

abbrev pub IsReadAt : List Node → ℕ → ℕ → ℕ → Type 0
IsReadAt nodes k array size = (index : ℕ) × (slice_get nodes k ≡ Some (Select array size index))

-- all nodes that read one variable read it at one width, and so for arrays
pub record IsUniform (nodes : List Node) : Type 0 where
  pub variables : (k j id size other : ℕ) → IsVarAt nodes k id size → IsVarAt nodes j id other → size ≡ other
  pub arrays : (k j array size other : ℕ) → IsReadAt nodes k array size → IsReadAt nodes j array other → size ≡ other

-- a table has the width at which each name is read by the first nodes, so many, and 0 for all others; no width is 0
pub record AreWidths (reads : ℕ → ℕ → ℕ → Type 0) (count : ℕ) (table : List (ℕ × ℕ)) : Type 0 where
  pub known : (k name size : ℕ) → k < count → reads k name size → (number_at table name ≡ size) × (0 < size)
  pub read : (name : ℕ) → number_at table name ≢ 0 → (k : ℕ) × (k < count) × reads k name (number_at table name)

-- the tables go on to so many nodes, or two nodes of the list are at odds
abbrev pub Goes : List Node → ℕ → List (ℕ × ℕ) → List (ℕ × ℕ) → Bool → Type 0
Goes nodes count variables arrays true = AreWidths (IsVarAt nodes) count variables × AreWidths (IsReadAt nodes) count arrays
Goes nodes count variables arrays false = IsUniform nodes → ⊥
