-- The cost of a term: how many inputs a search for instances can need for it.
use Rattle.std.specs.Prelude.{ℕ, ◌+◌, ◌*◌, if◌then◌else◌, nat_eq, List, [], ◌∷◌, length, reverse}
use Rattle.hk_term.specs.declared.bounds.Bound.{Bound}
use Rattle.hk_term.specs.declared.node.Node.{Node}
use Rattle.hk_term.specs.declared.node.Node.TheVariants.{Const, Var, Select, Unary, Binary, Choose, Resize, ForAll}

-- how many tuples of numbers bound variables have
abbrev pub tuples : List Bound → ℕ
tuples [] = 1
tuples (b ∷ bs) = b.size * tuples bs

-- the cost of a node over the costs of its parts: a read is an input, and a quantifier is one with its body at each tuple and at one more
abbrev pub node_cost : Node → (ℕ → ℕ) → ℕ
node_cost (Const width value) d = 0
node_cost (Var width id) d = 0
node_cost (Select array width index) d = 1 + d index
node_cost (Unary kind a) d = d a
node_cost (Binary kind a b) d = d a + d b
node_cost (Choose condition a b) d = d condition + d a + d b
node_cost (Resize kind to a) d = d a
node_cost (ForAll bound body) d = 1 + (tuples bound + 1) * (1 + d body)

-- the cost of a term over the nodes with the newest first
unfoldable pub cost_in : List Node → ℕ → ℕ
cost_in [] t = 0
cost_in (n ∷ earlier) t = if nat_eq t (length earlier) then node_cost n (cost_in earlier) else cost_in earlier t

abbrev pub cost : List Node → ℕ → ℕ
cost nodes t = cost_in (reverse nodes) t
