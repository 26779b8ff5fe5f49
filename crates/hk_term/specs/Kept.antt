-- How a list of nodes is kept: each node with its width.
use Rattle.std.specs.Prelude.{◌≡◌, ℕ, ◌<◌, ◌++◌, ◌∷◌, ◌⊎◌, List, [], length, reverse, slice_get, option_map, Some}
use Rattle.std.specs.Map.{keys_of}
use Rattle.hk_term.specs.Shape.{AllFitIn, width}
use Rattle.hk_term.specs.declared.node.Node.{Node}

pub record IsTermTable (entries : List (Node × ℕ)) : Type 0 where
  pub fit : AllFitIn (reverse (keys_of entries))
  pub widths : (k : ℕ) → k < length entries → option_map (λ e. e.1) (slice_get entries k) ≡ Some (width (keys_of entries) k)

-- a node with its width has a place: its own, or a new one at the end
abbrev pub IsPlaced : List (Node × ℕ) → List (Node × ℕ) → Node → ℕ → ℕ → Type 0
IsPlaced old new node width i =
    ((slice_get old i ≡ Some (node, width)) × (new ≡ old)) ⊎ ((i ≡ length old) × (new ≡ old ++ (node, width) ∷ []))
