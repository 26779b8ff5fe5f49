-- The widths of terms, and when a node fits a list of them. A term is the place of its node in a list; its parts stand before it.
use Rattle.std.specs.Prelude.{◌≡◌, ◌≢◌, ℕ, ◌^◌, ◌<◌, ◌≤◌, if◌then◌else◌, nat_eq, List, [], ◌∷◌, ◌++◌, length, reverse, slice_get}
use Rattle.hk_term.specs.Operations.{binary_width, BinaryFits, ResizeFits}
use Rattle.hk_term.specs.declared.node.Node.{Node}
use Rattle.hk_term.specs.declared.node.Node.TheVariants.{Const, Var, Select, Unary, Binary, Choose, Resize, ForAll}

-- a width has from 1 to 64 bits
abbrev pub IsWidth : ℕ → Type 0
IsWidth w = (1 ≤ w) × (w ≤ 64)

-- the width of a node over the widths of the terms before it
abbrev pub node_width : Node → (ℕ → ℕ) → ℕ
node_width (Const width value) w = width
node_width (Var width id) w = width
node_width (Select array width index) w = width
node_width (Unary kind a) w = w a
node_width (Binary kind a b) w = binary_width kind (w a) (w b)
node_width (Choose condition a b) w = w a
node_width (Resize kind to a) w = to
node_width (ForAll bound body) w = 1

-- the width of a term over the nodes with the newest first
unfoldable pub width_in : List Node → ℕ → ℕ
width_in [] t = 0
width_in (n ∷ earlier) t = if nat_eq t (length earlier) then node_width n (width_in earlier) else width_in earlier t

abbrev pub width : List Node → ℕ → ℕ
width nodes t = width_in (reverse nodes) t

-- a node fits behind so many terms of these widths: its parts are among them, and its widths go together
abbrev pub NodeFits : ℕ → (ℕ → ℕ) → Node → Type 0
NodeFits len w (Const width value) = (IsWidth width) × (value < 2 ^ width)
NodeFits len w (Var width id) = IsWidth width
NodeFits len w (Select array width index) = (IsWidth width) × (index < len)
NodeFits len w (Unary kind a) = a < len
NodeFits len w (Binary kind a b) = (a < len) × (b < len) × (BinaryFits kind (w a) (w b))
NodeFits len w (Choose condition a b) = (condition < len) × (a < len) × (b < len) × (w condition ≡ 1) × (w a ≡ w b)
NodeFits len w (Resize kind to a) = (a < len) × (ResizeFits kind (w a) to)
NodeFits len w (ForAll bound body) = (body < len) × (w body ≡ 1)

-- each node fits behind those before it; the newest first
unfoldable pub AllFitIn : List Node → Type 0
AllFitIn [] = Unit {0}
AllFitIn (n ∷ earlier) = (NodeFits (length earlier) (width_in earlier) n) × (AllFitIn earlier)

-- no node stands twice
abbrev pub IsDistinct : List Node → Type 0
IsDistinct nodes = (i j : ℕ) → i < j → j < length nodes → slice_get nodes i ≢ slice_get nodes j

-- the list grew at its end alone
pub record Grows (old new : List Node) : Type 0 where
  pub more : List Node
  pub is : new ≡ old ++ more
