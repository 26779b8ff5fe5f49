-- The value of a term under a reading of variables and arrays, by cases on its node.
use Rattle.std.specs.Prelude.{ℕ, zero, suc, ◌%◌, ◌^◌, Bool, true, ◌&&◌, if◌then◌else◌, nat_eq, List, [], ◌∷◌, length, reverse}
use Rattle.hk_term.specs.Operations.{bit, unary_value, binary_value, resize_value}
use Rattle.hk_term.specs.Shape.{width_in}
use Rattle.hk_term.specs.Tables.{number_at, entry_at}
use Rattle.hk_term.specs.declared.bounds.Bound.{Bound}
use Rattle.hk_term.specs.declared.node.Node.{Node}
use Rattle.hk_term.specs.declared.node.Node.TheVariants.{Const, Var, Select, Unary, Binary, Choose, Resize, ForAll}
use Rattle.hk_term.specs.declared.valuation.Valuation.{Valuation}

-- a number for each variable, and for each place of each array
pub record Reading : Type 0 where
  pub var : ℕ → ℕ
  pub entry : ℕ → ℕ → ℕ

-- the reading of a valuation
abbrev pub reading_of : Valuation → Reading
reading_of v = record { var = number_at v.vars; entry = entry_at v.arrays }

-- with this number for one variable
abbrev pub with_var : Reading → ℕ → ℕ → Reading
with_var v id k = record v { var = λ j. if nat_eq j id then k else v.var j }

-- the test holds of each number below n
abbrev pub every_below : ℕ → (ℕ → Bool) → Bool
every_below zero p = true
every_below (suc n) p = every_below n p && p n

-- the test holds of the reading with each tuple of numbers for the bound variables, each below its size
abbrev pub every_tuple : List Bound → (Reading → Bool) → Reading → Bool
every_tuple [] p v = p v
every_tuple (b ∷ bs) p v = every_below b.size (λ k. every_tuple bs p (with_var v b.id k))

-- the value of a node, over the values f and the widths w of the terms before it
abbrev pub node_value : Node → (ℕ → Reading → ℕ) → (ℕ → ℕ) → Reading → ℕ
node_value (Const width value) f w v = value
node_value (Var width id) f w v = v.var id % 2 ^ width
node_value (Select array width index) f w v = v.entry array (f index v) % 2 ^ width
node_value (Unary kind a) f w v = unary_value kind (w a) (f a v)
node_value (Binary kind a b) f w v = binary_value kind (w a) (w b) (f a v) (f b v)
node_value (Choose condition a b) f w v = if nat_eq (f condition v) 1 then f a v else f b v
node_value (Resize kind to a) f w v = resize_value kind (w a) to (f a v)
node_value (ForAll bound body) f w v = bit (every_tuple bound (λ u. nat_eq (f body u) 1) v)

-- the value of a term over the nodes with the newest first
unfoldable pub value_in : List Node → ℕ → Reading → ℕ
value_in [] t v = 0
value_in (n ∷ earlier) t v = if nat_eq t (length earlier) then node_value n (value_in earlier) (width_in earlier) v else value_in earlier t v

abbrev pub value : List Node → ℕ → Reading → ℕ
value nodes t v = value_in (reverse nodes) t v
