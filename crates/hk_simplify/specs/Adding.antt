-- What a constructor may add to the list of terms.
use Rattle.std.specs.Prelude.{◌≡◌, ℕ, ◌+◌, ◌≤◌, List, length}
use Rattle.hk_term.specs.Inputs.{inputs_in}
use Rattle.hk_term.specs.declared.node.Node.{Node}

-- at most so many nodes, none of them a variable, an entry of an array or a quantifier
pub record Adds (most : ℕ) (old new : List Node) : Type 0 where
  pub few : length new ≤ length old + most
  pub inputs : inputs_in new ≡ inputs_in old
