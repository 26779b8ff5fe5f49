-- Walks along a relation, and the relation of a graph's edges.
use Rattle.std.specs.Prelude.{◌≡◌, ℕ, ◌<◌, List, [], ◌∷◌, length, slice_index_or}
use Rattle.std.specs.List.{Contains}

-- a walk from a to b that leaves these behind, a first; b is not yet left
abbrev pub Walks : {A : Type 0} → (A → A → Type 0) → A → List A → A → Type 0
Walks R a [] b = a ≡ b
Walks {A} R a (x ∷ left) b = (a ≡ x) × (y : A) × R x y × Walks R y left b

-- some walk leads from a to b
abbrev pub Leads : {A : Type 0} → (A → A → Type 0) → A → A → Type 0
Leads {A} R a b = (left : List A) × Walks R a left b

-- a walk of one step or more returns to its start
abbrev pub IsOnCycle : {A : Type 0} → (A → A → Type 0) → A → Type 0
IsOnCycle {A} R a = (b : A) × R a b × Leads R b a

-- the nodes to which the edges of a node lead
abbrev pub targets_of : List (List ℕ) → ℕ → List ℕ
targets_of graph a = slice_index_or graph a []

-- an edge leads from a to b
abbrev pub HasEdge : List (List ℕ) → ℕ → ℕ → Type 0
HasEdge graph a b = Contains (targets_of graph a) b

-- each edge leads to a node of the graph
abbrev pub AreWithin : List (List ℕ) → Type 0
AreWithin graph = (a b : ℕ) → HasEdge graph a b → b < length graph
