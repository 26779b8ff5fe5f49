-- What is known of a term whose node stands in a list.
use Rattle.std.specs.Prelude.{◌≡◌, ℕ, ◌^◌, ◌<◌, List, length, slice_get, Some}
use Rattle.hk_term.specs.Shape.{IsWidth, NodeFits, node_width, width}
use Rattle.hk_term.specs.Meaning.{Reading, node_value, value}
use Rattle.hk_term.specs.declared.node.Node.{Node}

pub record Holds (nodes : List Node) (t : ℕ) (n : Node) : Type 0 where
  pub within : t < length nodes
  pub at : slice_get nodes t ≡ Some n
  pub fits : NodeFits t (width nodes) n
  pub value_is : (v : Reading) → value nodes t v ≡ node_value n (value nodes) (width nodes) v
  pub width_is : width nodes t ≡ node_width n (width nodes)
  pub is_width : IsWidth (width nodes t)
  pub below : (v : Reading) → value nodes t v < 2 ^ width nodes t
