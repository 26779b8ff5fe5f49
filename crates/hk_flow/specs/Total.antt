-- Totals along the steps of a relation: what a node has of its own, and the totals of its targets, each as often as it is one.
use Rattle.std.specs.Prelude.{◌≡◌, ℕ, ◌+◌, ◌<◌, List, sum_by, slice_index}
use Rattle.std.specs.List.{Contains}
use Rattle.hk_graph.specs.Walks.{Leads, IsOnCycle, targets_of}

-- b is a target of a
abbrev pub IsTarget : {A : Type 0} → (A → List A) → A → A → Type 0
IsTarget targets a b = Contains (targets a) b

-- numbers for all nodes to which v leads, with the equations of a total, and the number of v
pub record HasTotal {A : Type 0} (own : A → ℕ) (targets : A → List A) (v : A) (n : ℕ) : Type 0 where
  pub total_of : A → ℕ
  pub sums : (a : A) → Leads (IsTarget targets) v a → total_of a ≡ own a + sum_by total_of (targets a)
  pub is : total_of v ≡ n

-- what has a target has something of its own
abbrev pub IsPositive : {A : Type 0} → (A → ℕ) → (A → List A) → Type 0
IsPositive {A} own targets = (a b : A) → IsTarget targets a b → 0 < own a

-- some node to which v leads lies on a cycle
abbrev pub LeadsToCycle : {A : Type 0} → (A → List A) → A → Type 0
LeadsToCycle {A} targets v = (c : A) × Leads (IsTarget targets) v c × IsOnCycle (IsTarget targets) c

-- the same over a graph, with a list of what each node has of its own
abbrev pub IsTotal : List (List ℕ) → List ℕ → ℕ → ℕ → Type 0
IsTotal graph own v n = HasTotal (λ a. slice_index own a) (targets_of graph) v n
