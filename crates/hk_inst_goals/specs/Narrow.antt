-- Lists of terms in which each variable and each read has two bits.
use Rattle.std.specs.Prelude.{◌≡◌, ℕ, Bool, true, nat_eq, List, length}
use Rattle.std.specs.List.{list_all}
use Rattle.hk_term.specs.Shape.{NodeFits, width}
use Rattle.hk_term.specs.declared.node.Node.{Node}
use Rattle.hk_term.specs.declared.node.Node.TheVariants.{Const, Var, Select, Unary, Binary, Choose, Resize, ForAll}

abbrev pub is_narrow : Node → Bool
is_narrow (Var size id) = nat_eq size 2
is_narrow (Select array size index) = nat_eq size 2
is_narrow _ = true

abbrev pub AreNarrow : List Node → Type 0
AreNarrow nodes = list_all is_narrow nodes ≡ true

-- a node that fits behind a list and has two bits where it is a variable or a read
pub record IsStep (nodes : List Node) (n : Node) : Type 0 where
  pub fits : NodeFits (length nodes) (width nodes) n
  pub narrow : is_narrow n ≡ true
