-- When a term is the copy of another in which variables stand for numbers or for other variables.
use Rattle.std.specs.Prelude.{◌≡◌, ℕ, ◌<◌, ◌≤◌, ◌⊎◌, nat_eq, List, length, slice_get, Some, None}
use Rattle.std.specs.List.{All}
use Rattle.std.specs.Map.{lookup}
use Rattle.hk_term.specs.Shape.{width}
use Rattle.hk_term.specs.Meaning.{Reading, value}
use Rattle.hk_term.specs.declared.bounds.Bound.{Bound}
use Rattle.hk_term.specs.declared.node.Node.{Node}
use Rattle.hk_term.specs.declared.node.Node.TheVariants.{Const, Var, Select, Unary, Binary, Choose, Resize, ForAll}
use Rattle.hk_term.specs.declared.node.UnaryKind.{UnaryKind}
use Rattle.hk_term.specs.declared.node.TermKind.{TermKind}
use Rattle.hk_term.specs.declared.node.TermResize.{TermResize}
use Rattle.hk_term.specs.declared.node.TermResize.TheVariants.{Zero, Extract}
use Rattle.hk_copy.specs.declared.stand.Stand.TheVariants.{Other}
use Rattle.hk_copy.specs.Stands.{Stands, replaced, without, IsApart, HasWidth}

-- a change of width that takes the lowest bits, or puts zeros above
abbrev pub IsCut : TermResize → ℕ → ℕ → Type 0
IsCut kind from to = ((kind ≡ Zero) × (from ≤ to)) ⊎ (kind ≡ Extract 0)

-- a term and its copy: constant where the value is, a variable as it is or as what it stands for, an operation over copies, and a
-- quantifier that hides its ids and captures nothing
pub data Copies (nodes : List Node) : Stands → ℕ → ℕ → Type 0 where
  constant : {env : Stands} {t r : ℕ} (n : ℕ) → t < length nodes → slice_get nodes r ≡ Some (Const (width nodes t) n) → ((v : Reading) → value nodes t (replaced env v) ≡ n) → Copies nodes env t r
  plain : {env : Stands} {t r : ℕ} (size id : ℕ) → slice_get nodes t ≡ Some (Var size id) → slice_get nodes r ≡ Some (Var size id) → lookup (nat_eq id) env ≡ None → Copies nodes env t r
  stands : {env : Stands} {t r : ℕ} (size id other : ℕ) → slice_get nodes t ≡ Some (Var size id) → lookup (nat_eq id) env ≡ Some (Other size other) → slice_get nodes r ≡ Some (Var size other) → Copies nodes env t r
  resized : {env : Stands} {t r : ℕ} (size id from other : ℕ) (kind : TermResize) (p : ℕ) → slice_get nodes t ≡ Some (Var size id) → lookup (nat_eq id) env ≡ Some (Other from other) → slice_get nodes p ≡ Some (Var from other) → slice_get nodes r ≡ Some (Resize kind size p) → IsCut kind from size → Copies nodes env t r
  select : {env : Stands} {t r : ℕ} (array size i j : ℕ) → slice_get nodes t ≡ Some (Select array size i) → slice_get nodes r ≡ Some (Select array size j) → Copies nodes env i j → Copies nodes env t r
  unary : {env : Stands} {t r : ℕ} (kind : UnaryKind) (a x : ℕ) → slice_get nodes t ≡ Some (Unary kind a) → slice_get nodes r ≡ Some (Unary kind x) → Copies nodes env a x → Copies nodes env t r
  binary : {env : Stands} {t r : ℕ} (kind : TermKind) (a b x y : ℕ) → slice_get nodes t ≡ Some (Binary kind a b) → slice_get nodes r ≡ Some (Binary kind x y) → Copies nodes env a x → Copies nodes env b y → Copies nodes env t r
  choose : {env : Stands} {t r : ℕ} (c a b z x y : ℕ) → slice_get nodes t ≡ Some (Choose c a b) → slice_get nodes r ≡ Some (Choose z x y) → Copies nodes env c z → Copies nodes env a x → Copies nodes env b y → Copies nodes env t r
  resize : {env : Stands} {t r : ℕ} (kind : TermResize) (to a x : ℕ) → slice_get nodes t ≡ Some (Resize kind to a) → slice_get nodes r ≡ Some (Resize kind to x) → Copies nodes env a x → Copies nodes env t r
  quantifier : {env : Stands} {t r : ℕ} (bound : List Bound) (a x : ℕ) → slice_get nodes t ≡ Some (ForAll bound a) → slice_get nodes r ≡ Some (ForAll bound x) → All (λ e. IsApart bound e.1) (without bound env) → Copies nodes (without bound env) a x → Copies nodes env t r

-- what a copy asks for: each stand has a width, and no quantifier of the term's list up to the term captures one
pub record AreReady (nodes : List Node) (env : Stands) (limit : ℕ) : Type 0 where
  pub widths : All (λ e. HasWidth e.1) env
  pub apart : (k : ℕ) (bound : List Bound) (body : ℕ) → k < limit → slice_get nodes k ≡ Some (ForAll bound body) → All (λ e. IsApart bound e.1) env

-- a read at a width of the variable of a width and an id: the variable, or a cut of it
pub data IsRead (nodes : List Node) (size from other : ℕ) : ℕ → Type 0 where
  whole : {r : ℕ} → from ≡ size → slice_get nodes r ≡ Some (Var size other) → IsRead nodes size from other r
  cut : {r : ℕ} (kind : TermResize) (p : ℕ) → slice_get nodes p ≡ Some (Var from other) → slice_get nodes r ≡ Some (Resize kind size p) → IsCut kind from size → IsRead nodes size from other r
