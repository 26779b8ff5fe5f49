-- How a term is had: it stands in the list, or its node has yet to be put there, or that of a part of it and then its own.
use Rattle.std.specs.Prelude.{◌≡◌, ℕ, ◌<◌, false, List, length}
use Rattle.hk_term.specs.Operations.{binary_value, binary_width, BinaryFits, resize_value, ResizeFits}
use Rattle.hk_term.specs.Shape.{NodeFits, node_width, width}
use Rattle.hk_term.specs.Meaning.{Reading, node_value, value}
use Rattle.hk_term.specs.Inputs.{is_input}
use Rattle.hk_term.specs.declared.node.Node.{Node}
use Rattle.hk_term.specs.declared.node.Node.TheVariants.{Binary, Resize}
use Rattle.hk_simplify.specs.declared.form.Form.{Form}
use Rattle.hk_simplify.specs.declared.form.Form.TheVariants.{Old, New, Over}
use Rattle.hk_simplify.specs.declared.form.Outer.{Outer}
use Rattle.hk_simplify.specs.declared.form.Outer.TheVariants.{First, Last, Resized}

-- an operation over a part of width u, behind so many terms of widths w
abbrev pub OuterFits : ℕ → (ℕ → ℕ) → ℕ → Outer → Type 0
OuterFits len w u (First kind b) = (b < len) × (BinaryFits kind u (w b))
OuterFits len w u (Last kind a) = (a < len) × (BinaryFits kind (w a) u)
OuterFits len w u (Resized kind to) = ResizeFits kind u to

abbrev pub outer_width : (ℕ → ℕ) → ℕ → Outer → ℕ
outer_width w u (First kind b) = binary_width kind u (w b)
outer_width w u (Last kind a) = binary_width kind (w a) u
outer_width w u (Resized kind to) = to

-- its value, where the part has the number n
abbrev pub outer_value : (ℕ → Reading → ℕ) → (ℕ → ℕ) → ℕ → ℕ → Outer → Reading → ℕ
outer_value f w u n (First kind b) v = binary_value kind u (w b) n (f b v)
outer_value f w u n (Last kind a) v = binary_value kind (w a) u (f a v) n
outer_value f w u n (Resized kind to) v = resize_value kind u to n

-- its node over the part at a place
abbrev pub outer_node : Outer → ℕ → Node
outer_node (First kind b) part = Binary kind part b
outer_node (Last kind a) part = Binary kind a part
outer_node (Resized kind to) part = Resize kind to part

-- the term is in the list, or the nodes fit behind it and are no inputs
abbrev pub FormFits : List Node → Form → Type 0
FormFits nodes (Old a) = a < length nodes
FormFits nodes (New node) = (NodeFits (length nodes) (width nodes) node) × (is_input node ≡ false)
FormFits nodes (Over part outer) =
    (NodeFits (length nodes) (width nodes) part) × (is_input part ≡ false)
    × (OuterFits (length nodes) (width nodes) (node_width part (width nodes)) outer)

-- its width
abbrev pub form_width : List Node → Form → ℕ
form_width nodes (Old a) = width nodes a
form_width nodes (New node) = node_width node (width nodes)
form_width nodes (Over part outer) = outer_width (width nodes) (node_width part (width nodes)) outer

-- its value under a reading
abbrev pub form_value : List Node → Form → Reading → ℕ
form_value nodes (Old a) v = value nodes a v
form_value nodes (New node) v = node_value node (value nodes) (width nodes) v
form_value nodes (Over part outer) v =
    outer_value (value nodes) (width nodes) (node_width part (width nodes)) (node_value part (value nodes) (width nodes) v) outer v
