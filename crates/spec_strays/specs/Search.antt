-- A search in its course as plain lists, its moves, and what holds of it.
use Rattle.std.specs.Prelude.{◌≡◌, ◌<◌, ◌+◌, ◌⊎◌, ℕ, Bool, true, if◌then◌else◌, List, [], ◌∷◌, ◌++◌, length, slice_set}
use Rattle.std.specs.List.{All, Contains, sum_by}
use Rattle.hk_graph.specs.Sorted.{flag_of}
use Rattle.hk_graph.specs.Walks.{HasEdge}
use Rattle.spec_strays.specs.Reached.{Comes}
use Rattle.spec_strays.specs.declared.search.Search.{Search}

-- the nodes that are reached, and those of which the edges are still to be followed
pub record State : Type 0 where
  pub marks : List Bool
  pub waiting : List ℕ

abbrev pub with_waiting : List Bool → List ℕ → State
with_waiting marks waiting = record { marks = marks; waiting = waiting }

abbrev pub state_of : Search → State
state_of s = with_waiting s.marks.items s.waiting.items

-- ---- moves

-- an edge leads to the node: it is marked and waits, unless it is marked
abbrev pub met : State → ℕ → State
met s v = if flag_of s.marks v then s else with_waiting (slice_set s.marks v true) (s.waiting ++ v ∷ [])

abbrev pub all_met : State → List ℕ → State
all_met s [] = s
all_met s (v ∷ vs) = all_met (met s v) vs

-- ---- what holds of it

-- the edges of the node are to be followed
abbrev pub IsFrom : List ℕ → State → ℕ → Type 0
IsFrom starts s v = Contains starts v ⊎ (flag_of s.marks v ≡ true)

-- what holds of a search: what is marked is reached, and an edge of a start or of a marked node that leads to no marked one is of one that
-- waits
pub record IsSearch (graph : List (List ℕ)) (starts : List ℕ) (s : State) : Type 0 where
  pub sizes : length s.marks ≡ length graph
  pub within : All (λ v. v < length graph) s.waiting
  pub from : All (IsFrom starts s) s.waiting
  pub told : (v : ℕ) → flag_of s.marks v ≡ true → Comes graph starts v
  pub followed : (v w : ℕ) → IsFrom starts s v → HasEdge graph v w → Contains s.waiting v ⊎ (flag_of s.marks w ≡ true)

abbrev pub cost : Bool → ℕ
cost b = if b then 0 else 1

-- each node that is not marked may wait once more
abbrev pub left_of : State → ℕ
left_of s = sum_by cost s.marks + length s.waiting
