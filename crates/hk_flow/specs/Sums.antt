-- What is told of the totals of a graph's nodes.
use Rattle.std.specs.Prelude.{◌≡◌, ℕ, ◌+◌, min, Bool, true, false, Option, Some, None, List, [], ◌∷◌, length, sum_by, slice_index, slice_index_or}
use Rattle.std.specs.List.{Contains}
use Rattle.hk_graph.specs.Walks.{HasEdge, targets_of}
use Rattle.hk_flow.specs.Total.{LeadsToCycle, IsTotal}

-- nothing where the node leads to a cycle, else its total, cut
abbrev pub IsSum : List (List ℕ) → List ℕ → ℕ → ℕ → Option ℕ → Type 0
IsSum graph own top v None = LeadsToCycle (targets_of graph) v
IsSum graph own top v (Some n) = (LeadsToCycle (targets_of graph) v → ⊥) × (t : ℕ) × IsTotal graph own v t × (n ≡ min t top)

-- the sum of a node, given those of its targets
abbrev pub told : List (Option ℕ) → ℕ → Option ℕ
told totals v = slice_index_or totals v None

abbrev pub then_more : Option ℕ → (ℕ → Option ℕ) → Option ℕ
then_more None f = None
then_more (Some m) f = f m

abbrev pub sum_along : List (Option ℕ) → ℕ → ℕ → List ℕ → Option ℕ
sum_along totals top n [] = Some n
sum_along totals top n (t ∷ ts) = then_more (told totals t) (λ m. sum_along totals top (min (n + m) top) ts)

-- nothing for a node that lies on a cycle
abbrev pub told_by : Bool → Option ℕ → Option ℕ
told_by true o = None
told_by false o = o

-- ---- the sums in their making

-- what is told of a node is so, by these numbers, and something is told of its targets too
abbrev pub IsCounted : List (List ℕ) → List ℕ → ℕ → (ℕ → ℕ) → List ℕ → List (Option ℕ) → ℕ → Option ℕ → Type 0
IsCounted graph own top total_of done totals v None = LeadsToCycle (targets_of graph) v
IsCounted graph own top total_of done totals v (Some n) =
    (LeadsToCycle (targets_of graph) v → ⊥)
    × (total_of v ≡ slice_index own v + sum_by total_of (targets_of graph v))
    × ((t : ℕ) → HasEdge graph v t → Contains done t × (m : ℕ) × (told totals t ≡ Some m))
    × (n ≡ min (total_of v) top)

pub record IsSummed (graph : List (List ℕ)) (own : List ℕ) (top : ℕ) (totals : List (Option ℕ)) (done : List ℕ) : Type 0 where
  pub total_of : ℕ → ℕ
  pub sizes : length totals ≡ length graph
  pub each : (v : ℕ) → Contains done v → IsCounted graph own top total_of done totals v (told totals v)
