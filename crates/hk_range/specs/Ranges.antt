-- Ranges of numbers, as in interval analysis: what is known of the number of a term.
use Rattle.std.specs.Prelude.{ℕ, ◌<◌, ◌≤◌, List, length, All}
use Rattle.hk_term.specs.Meaning.{Reading, value}
use Rattle.hk_term.specs.declared.node.Node.{Node}
use Rattle.hk_term.specs.declared.bounds.Bound.{Bound}
use Rattle.hk_range.specs.declared.range.Range.{Range}
use Rattle.hk_range.specs.declared.known.Fact.{Fact}
use Rattle.hk_range.specs.declared.known.Known.{Known}

-- a number is not below the least of a range, and not above its greatest
pub record InRange (r : Range) (n : ℕ) : Type 0 where
  pub least : r.lo ≤ n
  pub most : n ≤ r.hi

-- the facts hold under a reading: the number of each term is in its range
abbrev pub AreTrue : List Node → List Fact → Reading → Type 0
AreTrue nodes facts v = All (λ f. InRange f.range (value nodes f.term v)) facts

-- variables are below their sizes
abbrev pub AreBelow : List Bound → Reading → Type 0
AreBelow bound v = All (λ b. v.var b.id < b.size) bound

-- a reading is one of which this is known
pub record Knows (nodes : List Node) (known : Known) (v : Reading) : Type 0 where
  pub facts : AreTrue nodes known.facts.items v
  pub bound : AreBelow known.bound.items v

-- the terms of facts stand in the list
abbrev pub AreThere : List Node → List Fact → Type 0
AreThere nodes facts = All (λ f. f.term < length nodes) facts
