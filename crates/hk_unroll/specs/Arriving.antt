-- The edges that arrive at copies, kept by turns and blocks, in their making.
use Rattle.std.specs.Prelude.{◌≡◌, ℕ, ◌+◌, ◌<◌, ◌≤◌, if◌then◌else◌, List, [], ◌∷◌, ◌++◌, length, slice_index_or}
use Rattle.hk_unroll.specs.declared.copies.BlockCopy.{BlockCopy}
use Rattle.hk_unroll.specs.Copies.{is_copy, arriving, arrivals, grown}

abbrev pub Layers : Type 0
Layers = List (List (List BlockCopy))

-- what is kept of a copy
abbrev pub at_copy : Layers → BlockCopy → List BlockCopy
at_copy layers c = slice_index_or (slice_index_or layers c.turns []) c.block []

-- each copy within n turns has its place
pub record AreSized (blocks n : ℕ) (layers : Layers) : Type 0 where
  pub turns : length layers ≡ n + 1
  pub rows : (k : ℕ) → k < n + 1 → length (slice_index_or layers k []) ≡ blocks

-- what is kept of each copy is what arrives at it from these
pub record AreArrivals (graph : List (List ℕ)) (n : ℕ) (made : List BlockCopy) (layers : Layers) : Type 0 where
  pub sized : AreSized (length graph) n layers
  pub arrive : (d : BlockCopy) → d.turns ≤ n → d.block < length graph → at_copy layers d ≡ arrivals graph made d

-- an edge arrives at a copy, where it is within n turns
pub record Arrives (n : ℕ) (from c : BlockCopy) (old new : Layers) : Type 0 where
  pub sized : (blocks : ℕ) → AreSized blocks n old → AreSized blocks n new
  pub adds : (d : BlockCopy) → d.turns ≤ n → at_copy new d ≡ at_copy old d ++ (if is_copy c d then from ∷ [] else [])

-- edges of a copy arrive, where they are within n turns
pub record ArriveAll (n : ℕ) (from : BlockCopy) (targets : List ℕ) (old new : Layers) : Type 0 where
  pub sized : (blocks : ℕ) → AreSized blocks n old → AreSized blocks n new
  pub adds : (d : BlockCopy) → d.turns ≤ n → at_copy new d ≡ at_copy old d ++ arriving from d targets
