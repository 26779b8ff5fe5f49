-- What is asked of the words of a node's parts, and what a node makes of them.
use Rattle.std.specs.Prelude.{◌≡◌, ℕ, ◌^◌, ◌<◌, ◌≤◌}
use Rattle.hk_term.specs.Operations.{BinaryFits, ResizeFits}
use Rattle.hk_term.specs.declared.node.Node.{Node}
use Rattle.hk_term.specs.declared.node.Node.TheVariants.{Const, Var, Select, Unary, Binary, Choose, Resize, ForAll}

-- words of these sizes go together, and a number fits its width
abbrev pub WordsFit : (ℕ → ℕ) → Node → Type 0
WordsFit w (Const width number) = (width ≤ 64) × (number < 2 ^ width)
WordsFit w (Var width id) = Unit {0}
WordsFit w (Select array width index) = Unit {0}
WordsFit w (Unary kind a) = Unit {0}
WordsFit w (Binary kind a b) = (1 ≤ w a) × (BinaryFits kind (w a) (w b))
WordsFit w (Choose condition a b) = (w condition ≡ 1) × (w a ≡ w b)
WordsFit w (Resize kind to a) = (1 ≤ w a) × (ResizeFits kind (w a) to)
WordsFit w (ForAll bound body) = Unit {0}

-- how many bits a node chooses freely
abbrev pub input_bits : Node → ℕ
input_bits (Var width id) = width
input_bits (Select array width index) = width
input_bits (ForAll bound body) = 1
input_bits _ = 0
