-- What is a copy: of a variable, of a node over the copies of its parts, of a quantifier.
use Rattle.std.proofs.Common.{◌≡◌, ℕ, ◌%◌, ◌^◌, ◌<◌, Bool, true, false, not, cond, ◌||◌, nat_eq, List, [], ◌∷◌, length, reverse, Some, arith, refl, sym, ◌∙◌, ap, subst, inl, inr}
use Rattle.std.specs.List.{slice_get, list_any, All}
use Rattle.std.specs.Map.{lookup}
use Rattle.std.specs.BTreeMap.{BTreeMap}
use Rattle.std.proofs.lemmas.Option.{slice_get_within}
use Rattle.std.proofs.lemmas.List.{length-reverse}
use Rattle.std.proofs.lemmas.List.Elements.{All-filter}
use Rattle.hk_term.specs.Operations.{unary_value, binary_value, binary_width, BinaryFits, resize_value, ResizeFits}
use Rattle.hk_term.specs.Shape.{IsWidth, width, node_width, NodeFits, AllFitIn, Grows}
use Rattle.hk_term.specs.Meaning.{Reading, value, node_value}
use Rattle.hk_term.specs.Facts.{Holds}
use Rattle.hk_term.specs.declared.bounds.Bound.{Bound}
use Rattle.hk_term.specs.declared.node.Node.{Node}
use Rattle.hk_term.specs.declared.node.Node.TheVariants.{Const, Var, Select, Unary, Binary, Choose, Resize, ForAll}
use Rattle.hk_term.proofs.TermLists.{holds, width-grows, value-grows, is_width_in, below_in, node_below, node_is_width}
use Rattle.hk_term.proofs.Interning.{slice_get-append}
use Rattle.hk_copy.specs.declared.stand.Stand.TheVariants.{Number, Other}
use Rattle.hk_copy.specs.Stands.{Stands, number_of, replaced, is_bound, without, IsApart}
use Rattle.hk_copy.specs.Copies.{Copies, IsRead}
use Rattle.hk_copy.specs.Copies.Copies.{constant, plain, stands, resized, select, unary, binary, choose, resize, quantifier}
use Rattle.hk_copy.specs.Copies.IsRead.{whole, cut}
use Rattle.hk_copy.specs.Reach.{IsPart}
use Rattle.hk_copy.specs.Making.{copy_in, HasCopy, AllCopies, renewed, PartsIn, IsOperation, IsFolded}
use Rattle.hk_copy.proofs.CopyLaws.{copies-width, copies-value, copies-grows}

-- ---- variables

pub number_copy : (nodes : List Node) → AllFitIn (reverse nodes) → (env : Stands) (size id n t r : ℕ) → lookup (nat_eq id) env ≡ Some (Number n) → slice_get nodes r ≡ Some (Const size (n % 2 ^ size)) → slice_get nodes t ≡ Some (Var size id) → Copies nodes env t r
number_copy nodes fit env size id n t r found to from =
    let h : Holds nodes t (Var size id) = holds nodes t _ fit from in
    constant (n % 2 ^ size) h.within (to ∙ ap (λ w. Some (Const w (n % 2 ^ size))) (sym h.width_is))
    (λ v. h.value_is (replaced env v) ∙ ap (λ o. number_of v o id % 2 ^ size) found)

pub read_copy : (nodes : List Node) (env : Stands) (size id from other t r : ℕ) → lookup (nat_eq id) env ≡ Some (Other from other) → IsRead nodes size from other r → slice_get nodes t ≡ Some (Var size id) → Copies nodes env t r
read_copy nodes env size id from other t r found (whole e to) at =
    stands size id other at (found ∙ ap (λ w. Some (Other w other)) e) to
read_copy nodes env size id from other t r found (cut kind p its to is) at = resized size id from other kind p at found its to is

-- ---- quantifiers

-- where no id is hidden, the same stands inside
pub without-none : (bound : List Bound) (env : Stands) → list_any (λ e. is_bound bound e.0) env ≡ false → without bound env ≡ env
without-none bound [] h = refl
without-none bound (p ∷ env) h = by (is_bound bound p.0) refl (without-none bound env)
  where
    by : (b : Bool) → is_bound bound p.0 ≡ b → (list_any (λ e. is_bound bound e.0) env ≡ false → without bound env ≡ env) → without bound (p ∷ env) ≡ p ∷ env
    by true q go =
        let found : (true || list_any (λ e. is_bound bound e.0) env) ≡ false = ap (λ b. b || list_any (λ e. is_bound bound e.0) env) (sym q) ∙ h in
        absurd (true_is_not_false found)
      where
        true_is_not_false : true ≡ false → ⊥
        true_is_not_false e = cc
    by false q go =
        ap (λ b. cond (not b) (p ∷ without bound env) (without bound env)) q
        ∙ ap (λ l. p ∷ l) (go (ap (λ b. b || list_any (λ e. is_bound bound e.0) env) (sym q) ∙ h))

-- ---- nodes over the copies of their parts

pub part-before : (n : Node) (t : ℕ) (w : ℕ → ℕ) (k : ℕ) → NodeFits t w n → IsPart n k → k < t
part-before (Const wide number) t w k fits is = absurd is
part-before (Var wide id) t w k fits is = absurd is
part-before (Select array wide index) t w k fits is = omega (arith, fits.1, is)
part-before (Unary kind a) t w k fits is = omega (arith, fits, is)
part-before (Binary kind a b) t w k fits (inl e) = omega (arith, fits.0, e)
part-before (Binary kind a b) t w k fits (inr e) = omega (arith, fits.1, e)
part-before (Choose c a b) t w k fits (inl e) = omega (arith, fits.0, e)
part-before (Choose c a b) t w k fits (inr (inl e)) = omega (arith, fits.1, e)
part-before (Choose c a b) t w k fits (inr (inr e)) = omega (arith, fits.2, e)
part-before (Resize kind to a) t w k fits is = omega (arith, fits.0, is)
part-before (ForAll bound body) t w k fits is = omega (arith, fits.0, is)

pub copies-within : (nodes : List Node) (env : Stands) (t r : ℕ) → Copies nodes env t r → r < length nodes
copies-within nodes env t r (constant n within at is) = slice_get_within nodes r _ at
copies-within nodes env t r (plain size id from to none) = slice_get_within nodes r _ to
copies-within nodes env t r (stands size id other from found to) = slice_get_within nodes r _ to
copies-within nodes env t r (resized size id wide other kind p from found its to is) = slice_get_within nodes r _ to
copies-within nodes env t r (select array size i j from to index) = slice_get_within nodes r _ to
copies-within nodes env t r (unary kind a x from to first) = slice_get_within nodes r _ to
copies-within nodes env t r (binary kind a b x y from to first second) = slice_get_within nodes r _ to
copies-within nodes env t r (choose c a b z x y from to test first second) = slice_get_within nodes r _ to
copies-within nodes env t r (resize kind to a x from at first) = slice_get_within nodes r _ at
copies-within nodes env t r (quantifier bound a x from to apart body) = slice_get_within nodes r _ to

module _ (nodes : List Node) (fit : AllFitIn (reverse nodes)) (env : Stands) (copies : BTreeMap ℕ ℕ) (all : AllCopies nodes env copies) where
  its : (a : ℕ) → HasCopy copies a → Copies nodes env a (copy_in copies a)
  its a h = all a (copy_in copies a) h

  its_width : (a : ℕ) → HasCopy copies a → width nodes (copy_in copies a) ≡ width nodes a
  its_width a h = copies-width nodes fit (its a h)

  its_value : (a : ℕ) → HasCopy copies a → (v : Reading) → value nodes (copy_in copies a) v ≡ value nodes a (replaced env v)
  its_value a h = copies-value nodes fit (its a h)

  its_place : (a : ℕ) → HasCopy copies a → copy_in copies a < length nodes
  its_place a h = copies-within nodes env a (copy_in copies a) (its a h)

  pub renewed-fits : (n : Node) (t : ℕ) → PartsIn copies n → NodeFits t (width nodes) n → NodeFits (length nodes) (width nodes) (renewed (copy_in copies) n)
  renewed-fits (Const wide number) t parts fits = fits
  renewed-fits (Var wide id) t parts fits = fits
  renewed-fits (Select array wide index) t parts fits = (fits.0, its_place index parts)
  renewed-fits (Unary kind a) t parts fits = its_place a parts
  renewed-fits (Binary kind a b) t parts fits = (
    its_place a parts.0,
    its_place b parts.1,
    subst (λ x. BinaryFits kind x (width nodes (copy_in copies b))) (sym (its_width a parts.0))
        (subst (λ y. BinaryFits kind (width nodes a) y) (sym (its_width b parts.1)) fits.2),
  )
  renewed-fits (Choose c a b) t parts fits = (
    its_place c parts.0,
    its_place a parts.1,
    its_place b parts.2,
    its_width c parts.0 ∙ fits.3,
    its_width a parts.1 ∙ fits.4 ∙ sym (its_width b parts.2),
  )
  renewed-fits (Resize kind to a) t parts fits = (its_place a parts, subst (λ x. ResizeFits kind x to) (sym (its_width a parts)) (fits.1))
  renewed-fits (ForAll bound body) t parts fits = (its_place body parts, its_width body parts ∙ fits.1)

  renewed-width : (n : Node) → PartsIn copies n → node_width (renewed (copy_in copies) n) (width nodes) ≡ node_width n (width nodes)
  renewed-width (Const wide number) parts = refl
  renewed-width (Var wide id) parts = refl
  renewed-width (Select array wide index) parts = refl
  renewed-width (Unary kind a) parts = its_width a parts
  renewed-width (Binary kind a b) parts = λ i. binary_width kind (its_width a parts.0 i) (its_width b parts.1 i)
  renewed-width (Choose c a b) parts = its_width a parts.1
  renewed-width (Resize kind to a) parts = refl
  renewed-width (ForAll bound body) parts = refl

  renewed-value : (n : Node) → IsOperation n → PartsIn copies n → (v : Reading) → node_value (renewed (copy_in copies) n) (value nodes) (width nodes) v ≡ node_value n (value nodes) (width nodes) (replaced env v)
  renewed-value (Const wide number) is parts v = refl
  renewed-value (Var wide id) is parts v = absurd is
  renewed-value (Select array wide index) is parts v = λ i. v.entry array (its_value index parts v i) % 2 ^ wide
  renewed-value (Unary kind a) is parts v = λ i. unary_value kind (its_width a parts i) (its_value a parts v i)
  renewed-value (Binary kind a b) is parts v =
      λ i. binary_value kind (its_width a parts.0 i) (its_width b parts.1 i) (its_value a parts.0 v i) (its_value b parts.1 v i)
  renewed-value (Choose c a b) is parts v =
      λ i. cond (nat_eq (its_value c parts.0 v i) 1) (its_value a parts.1 v i) (its_value b parts.2 v i)
  renewed-value (Resize kind to a) is parts v = λ i. resize_value kind (its_width a parts i) to (its_value a parts v i)
  renewed-value (ForAll bound body) is parts v = absurd is

  module _ (new : List Node) (g : Grows nodes new) where
    there : (t : ℕ) (n : Node) → slice_get nodes t ≡ Some n → slice_get new t ≡ Some n
    there t n e = ap (λ l. slice_get l t) g.is ∙ slice_get-append nodes g.more t (slice_get_within nodes t n e) ∙ e

    later : (a : ℕ) → HasCopy copies a → Copies new env a (copy_in copies a)
    later a h = copies-grows nodes new g env a (copy_in copies a) (its a h)

    -- a constant of the value is a copy
    constant-copy : (t r m : ℕ) (n : Node) → slice_get nodes t ≡ Some n → slice_get new r ≡ Some (Const (node_width n (width nodes)) m) → ((v : Reading) → node_value n (value nodes) (width nodes) (replaced env v) ≡ m) → Copies new env t r
    constant-copy t r m n e at is =
        let h : Holds nodes t n = holds nodes t n fit e in
        let same_width : node_width n (width nodes) ≡ width new t = sym h.width_is ∙ sym (width-grows nodes g.more t h.within) ∙ sym (ap (λ l. width l t) g.is) in
        constant m (slice_get_within new t n (there t n e)) (at ∙ ap (λ w. Some (Const w m)) same_width)
        (λ v. ap (λ l. value l t (replaced env v)) g.is ∙ value-grows nodes g.more t (replaced env v) h.within ∙ h.value_is (replaced env v) ∙ is v)

    renewed-copy : (t r : ℕ) (n : Node) → slice_get nodes t ≡ Some n → IsOperation n → PartsIn copies n → slice_get new r ≡ Some (renewed (copy_in copies) n) → Copies new env t r
    renewed-copy t r (Const wide number) e is parts at = constant-copy t r number _ e at (λ v. refl)
    renewed-copy t r (Var wide id) e is parts at = absurd is
    renewed-copy t r (Select array wide index) e is parts at = select array wide index (copy_in copies index) (there t _ e) at (later index parts)
    renewed-copy t r (Unary kind a) e is parts at = unary kind a (copy_in copies a) (there t _ e) at (later a parts)
    renewed-copy t r (Binary kind a b) e is parts at =
        binary kind a b (copy_in copies a) (copy_in copies b) (there t _ e) at (later a parts.0) (later b parts.1)
    renewed-copy t r (Choose c a b) e is parts at =
        choose c a b (copy_in copies c) (copy_in copies a) (copy_in copies b) (there t _ e) at (later c parts.0) (later a parts.1) (later b parts.2)
    renewed-copy t r (Resize kind to a) e is parts at = resize kind to a (copy_in copies a) (there t _ e) at (later a parts)
    renewed-copy t r (ForAll bound body) e is parts at = absurd is

    pub made-copy : (t r : ℕ) (n made : Node) → slice_get nodes t ≡ Some n → IsOperation n → PartsIn copies n → IsFolded nodes (renewed (copy_in copies) n) made → slice_get new r ≡ Some made → Copies new env t r
    made-copy t r n made e is parts (inl same) at = renewed-copy t r n e is parts (at ∙ ap Some same)
    made-copy t r n made e is parts (inr p) at =
        constant-copy t r p.0 n e (at ∙ ap Some p.1 ∙ ap (λ w. Some (Const w p.0)) (renewed-width n parts))
        (λ v. sym (renewed-value n is parts v) ∙ p.2 v)

    -- a quantifier that hides nothing is one over the copy of its body
    pub same-quantifier : (t r : ℕ) (bound : List Bound) (body : ℕ) → slice_get nodes t ≡ Some (ForAll bound body) → list_any (λ e. is_bound bound e.0) env ≡ false → All (λ e. IsApart bound e.1) env → HasCopy copies body → slice_get new r ≡ Some (ForAll bound (copy_in copies body)) → Copies new env t r
    same-quantifier t r bound body e open_env apart has at =
        quantifier bound body (copy_in copies body) (there t _ e) at (All-filter (λ e. not (is_bound bound e.0)) (λ e. IsApart bound e.1) env apart)
        (subst (λ x. Copies new x body (copy_in copies body)) (sym (without-none bound env open_env)) (later body has))

-- a folded node fits where the node does
pub folded-fits : (nodes : List Node) → AllFitIn (reverse nodes) → (n made : Node) → NodeFits (length nodes) (width nodes) n → IsFolded nodes n made → NodeFits (length nodes) (width nodes) made
folded-fits nodes fit n made fits (inl same) = subst (NodeFits (length nodes) (width nodes)) (sym same) fits
folded-fits nodes fit n made fits (inr p) =
    let len : length (reverse nodes) ≡ length nodes = length-reverse nodes in
    let widths : (k : ℕ) → k < length nodes → IsWidth (width nodes k) = λ k h. is_width_in (reverse nodes) fit k (omega (arith, len)) in
    let none : Reading = record { var = λ i. 0; entry = λ a i. 0 } in
    let below : node_value n (value nodes) (width nodes) none < 2 ^ node_width n (width nodes) =
    node_below n (length nodes) (value nodes) (width nodes) none fits widths (λ k h v. below_in (reverse nodes) fit k (omega (arith, len)) v) in
    subst (NodeFits (length nodes) (width nodes)) (sym p.1)
    (node_is_width n (length nodes) (width nodes) fits widths, subst (λ m. m < 2 ^ node_width n (width nodes)) (p.2 none) below)

-- a quantifier that hides some is one over the copy of its body under the others
pub inner-quantifier : (nodes : List Node) (env : Stands) (t r : ℕ) (bound : List Bound) (body x : ℕ) → slice_get nodes t ≡ Some (ForAll bound body) → All (λ e. IsApart bound e.1) env → Copies nodes (without bound env) body x → slice_get nodes r ≡ Some (ForAll bound x) → Copies nodes env t r
inner-quantifier nodes env t r bound body x e apart inside at = quantifier bound body x e at (All-filter (λ e. not (is_bound bound e.0)) (λ e. IsApart bound e.1) env apart) inside
