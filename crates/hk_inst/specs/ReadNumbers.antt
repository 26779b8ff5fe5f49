-- The places and the numbers of reads, each told once.
use Rattle.std.specs.Prelude.{ℕ, List, Option, Some, slice_get}
use Rattle.hk_term.specs.declared.node.Node.{Node}
use Rattle.hk_term.specs.declared.node.Node.TheVariants.{Select}
use Rattle.hk_inst.specs.declared.completion.ReadNumbers.{ReadNumbers}

-- the place that a node reads, where terms have the numbers f, and 0 where it is no read
abbrev pub place_read : Option Node → (ℕ → ℕ) → ℕ
place_read (Some (Select array width index)) f = f index
place_read _ f = 0

-- a read's place and number
abbrev pub numbers_at : List Node → (ℕ → ℕ) → ℕ → ReadNumbers
numbers_at nodes f t = record { place = place_read (slice_get nodes t) f; number = f t }
