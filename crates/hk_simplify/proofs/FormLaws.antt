-- A node over a part that was put into the list before it.
use Rattle.std.proofs.Common.{◌≡◌, ℕ, ◌+◌, ◌<◌, ◌≤◌, ◌++◌, false, List, length, arith, refl, sym, ◌∙◌, ap, subst}
use Rattle.std.proofs.lemmas.List.{append_assoc}
use Rattle.hk_term.specs.Operations.{binary_value, binary_width, BinaryFits, resize_value, ResizeFits}
use Rattle.hk_term.specs.Shape.{NodeFits, node_width, width, Grows}
use Rattle.hk_term.specs.Meaning.{Reading, node_value, value}
use Rattle.hk_term.specs.Inputs.{is_input}
use Rattle.hk_term.specs.declared.node.Node.{Node}
use Rattle.hk_simplify.specs.Adding.{Adds}
use Rattle.hk_simplify.specs.Forms.{OuterFits, outer_width, outer_value, outer_node}
use Rattle.hk_simplify.specs.declared.form.Outer.{Outer}
use Rattle.hk_simplify.specs.declared.form.Outer.TheVariants.{First, Last, Resized}

-- the calls add what they add together
pub adds-trans : (m n : ℕ) (a b c : List Node) → Adds m a b → Adds n b c → Adds (m + n) a c
adds-trans m n a b c p q = record { few = omega (arith, p.few, q.few); inputs = q.inputs ∙ p.inputs }

pub adds-most : (m n : ℕ) (a b : List Node) → m ≤ n → Adds m a b → Adds n a b
adds-most m n a b h p = record { few = omega (arith, h, p.few); inputs = p.inputs }

pub adds-none : (n : ℕ) (a : List Node) → Adds n a a
adds-none n a = record { few = omega arith; inputs = refl }

pub grows-trans : (a b c : List Node) → Grows a b → Grows b c → Grows a c
grows-trans a b c p q = record { more = p.more ++ q.more; is = q.is ∙ ap (λ l. l ++ q.more) p.is ∙ append_assoc a p.more q.more }

-- what intern needs, and what it tells: the list before a part, the list with it, and the part's place
module _ (old new : List Node) (part : Node) (at : ℕ)
    (within : at < length new) (longer : length old ≤ length new)
    (part_width : width new at ≡ node_width part (width old))
    (part_value : (v : Reading) → value new at v ≡ node_value part (value old) (width old) v)
    (widths : (k : ℕ) → k < length old → width new k ≡ width old k)
    (values : (k : ℕ) → k < length old → (v : Reading) → value new k v ≡ value old k v) where
  pub outer-fits : (o : Outer) → OuterFits (length old) (width old) (node_width part (width old)) o → NodeFits (length new) (width new) (outer_node o at)
  outer-fits (First kind b) fits =
      (within, omega (arith, fits.0, longer), subst (λ u. BinaryFits kind u (width new b)) (sym part_width) (subst (λ u. BinaryFits kind (node_width part (width old)) u) (sym (widths b fits.0)) fits.1))
  outer-fits (Last kind a) fits =
      (omega (arith, fits.0, longer), within, subst (λ u. BinaryFits kind (width new a) u) (sym part_width) (subst (λ u. BinaryFits kind u (node_width part (width old))) (sym (widths a fits.0)) fits.1))
  outer-fits (Resized kind to) fits = (within, subst (λ u. ResizeFits kind u to) (sym part_width) fits)

  pub outer-width : (o : Outer) → OuterFits (length old) (width old) (node_width part (width old)) o → node_width (outer_node o at) (width new) ≡ outer_width (width old) (node_width part (width old)) o
  outer-width (First kind b) fits = λ i. binary_width kind (part_width i) (widths b fits.0 i)
  outer-width (Last kind a) fits = λ i. binary_width kind (widths a fits.0 i) (part_width i)
  outer-width (Resized kind to) fits = refl

  pub outer-value : (o : Outer) → OuterFits (length old) (width old) (node_width part (width old)) o → (v : Reading) → node_value (outer_node o at) (value new) (width new) v ≡ outer_value (value old) (width old) (node_width part (width old)) (node_value part (value old) (width old) v) o v
  outer-value (First kind b) fits v = λ i. binary_value kind (part_width i) (widths b fits.0 i) (part_value v i) (values b fits.0 v i)
  outer-value (Last kind a) fits v = λ i. binary_value kind (widths a fits.0 i) (part_width i) (values a fits.0 v i) (part_value v i)
  outer-value (Resized kind to) fits v = λ i. resize_value kind (part_width i) to (part_value v i)

pub outer-operation : (o : Outer) (at : ℕ) → is_input (outer_node o at) ≡ false
outer-operation (First kind b) at = refl
outer-operation (Last kind a) at = refl
outer-operation (Resized kind to) at = refl
