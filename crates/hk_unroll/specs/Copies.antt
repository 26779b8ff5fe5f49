-- Turns of a function whose blocks have a cycle, copies of its blocks, and which of them paths reach.
use Rattle.std.specs.Prelude.{◌≡◌, ℕ, ◌+◌, ◌≤◌, Bool, true, ◌&&◌, ◌||◌, ◌==◌, not, if◌then◌else◌, nat_le, List, [], ◌∷◌, ◌++◌, map, flat_map, filter, length}
use Rattle.std.specs.List.{range_with_len}
use Rattle.ir_ast.specs.Program.{FunctionView}
use Rattle.hk_graph.specs.Walks as graphs
use Rattle.hk_graph.specs.Walks.{Leads, IsOnCycle, targets_of}
use Rattle.ir_check.specs.Paths.{HasEdge}
use Rattle.hk_unroll.specs.declared.copies.BlockCopy.{BlockCopy}

-- some walk of blocks returns to its start, whether or not a path reaches it
abbrev pub HasCycle : FunctionView → Type 0
HasCycle f = (x : List ℕ) × IsOnCycle (HasEdge f) x

-- an edge leads to a block that does not stand later in the text than the one it leaves; blocks by their places
abbrev pub is_turn : ℕ → ℕ → Bool
is_turn from to = nat_le to from

-- the copy to which an edge from a copy leads: behind a turn, one with one turn more
abbrev pub led_to : BlockCopy → ℕ → BlockCopy
led_to c to = record { turns = if is_turn c.block to then c.turns + 1 else c.turns; block = to }

-- ---- paths of copies

abbrev pub first_copy : BlockCopy
first_copy = record { turns = 0; block = 0 }

-- an edge from a copy to a copy within so many turns, by the graph of the blocks
abbrev pub Follows : List (List ℕ) → ℕ → BlockCopy → BlockCopy → Type 0
Follows graph n c d = (to : ℕ) × graphs.HasEdge graph c.block to × (d ≡ led_to c to) × (d.turns ≤ n)

-- a path from the first block leads to the copy
abbrev pub IsReached : List (List ℕ) → ℕ → BlockCopy → Type 0
IsReached graph n c = Leads (Follows graph n) first_copy c

-- ---- the same, computed

abbrev pub is_copy : BlockCopy → BlockCopy → Bool
is_copy c d = (c.turns == d.turns) && (c.block == d.block)

-- of these edges from one copy, those that arrive at another, each as often as it is listed
abbrev pub arriving : BlockCopy → BlockCopy → List ℕ → List BlockCopy
arriving from c targets = map (λ to. from) (filter (λ to. is_copy (led_to from to) c) targets)

-- the copies among these from which edges arrive, one for each edge
abbrev pub arrivals : List (List ℕ) → List BlockCopy → BlockCopy → List BlockCopy
arrivals graph made c = flat_map (λ from. arriving from c (targets_of graph from.block)) made

abbrev pub is_some_copy : List BlockCopy → Bool
is_some_copy [] = Bool.false
is_some_copy (c ∷ cs) = true

-- the copy is that of the first block, or an edge from one of these arrives
abbrev pub is_reached : List (List ℕ) → List BlockCopy → BlockCopy → Bool
is_reached graph made c = is_copy c first_copy || is_some_copy (arrivals graph made c)

-- these, and of the further ones in turn those that are reached from the ones before
abbrev pub grown : List (List ℕ) → List BlockCopy → List BlockCopy → List BlockCopy
grown graph made [] = made
grown graph made (c ∷ cs) = grown graph (if is_reached graph made c then made ++ c ∷ [] else made) cs

-- copies with so many turns of the blocks from a place on, in text order
abbrev pub layer_from : ℕ → ℕ → ℕ → List BlockCopy
layer_from k b count = map (λ b. record { turns = k; block = b }) (range_with_len b count)

abbrev pub layer : ℕ → ℕ → List BlockCopy
layer blocks k = layer_from k 0 blocks

-- those with so many turns and more, the fewest turns first
abbrev pub layers_from : ℕ → ℕ → ℕ → List BlockCopy
layers_from blocks k count = flat_map (layer blocks) (range_with_len k count)

-- all copies within n turns: an edge leads to a later one
abbrev pub all_copies : ℕ → ℕ → List BlockCopy
all_copies blocks n = layers_from blocks 0 (n + 1)

-- the copies that are reached
abbrev pub copies_of : List (List ℕ) → ℕ → List BlockCopy
copies_of graph n = grown graph [] (all_copies (length graph) n)
