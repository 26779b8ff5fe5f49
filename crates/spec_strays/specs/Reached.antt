-- Nodes of a graph to which edges lead from some of them.
use Rattle.std.specs.Prelude.{◌≡◌, ℕ, Bool, true, List, [], ◌∷◌}
use Rattle.std.specs.List.{Contains}
use Rattle.hk_graph.specs.Sorted.{flag_of}
use Rattle.hk_graph.specs.Walks.{HasEdge}

-- an edge leads to the node from a start, or from the first of these nodes, which is reached by the others
abbrev pub ComesBy : List (List ℕ) → List ℕ → ℕ → List ℕ → Type 0
ComesBy graph starts v [] = (s : ℕ) × Contains starts s × HasEdge graph s v
ComesBy graph starts v (w ∷ others) = HasEdge graph w v × ComesBy graph starts w others

-- one edge or more lead from a start to the node
abbrev pub Comes : List (List ℕ) → List ℕ → ℕ → Type 0
Comes graph starts v = (between : List ℕ) × ComesBy graph starts v between

-- the flags say which nodes one edge or more lead to from a start
pub record AreReached (graph : List (List ℕ)) (starts : List ℕ) (flags : List Bool) : Type 0 where
  pub told : (v : ℕ) → flag_of flags v ≡ true → Comes graph starts v
  pub all : (v : ℕ) → Comes graph starts v → flag_of flags v ≡ true
