-- The inputs among nodes: variables, entries of arrays and quantifiers. A reading gives them their numbers; constants and operations have theirs from these.
use Rattle.std.specs.Prelude.{Bool, true, false, List, filter}
use Rattle.hk_term.specs.declared.node.Node.{Node}
use Rattle.hk_term.specs.declared.node.Node.TheVariants.{Const, Var, Select, Unary, Binary, Choose, Resize, ForAll}

abbrev pub is_input : Node → Bool
is_input (Var width id) = true
is_input (Select array width index) = true
is_input (ForAll bound body) = true
is_input _ = false

-- the inputs of a list, in its order
abbrev pub inputs_in : List Node → List Node
inputs_in nodes = filter is_input nodes
