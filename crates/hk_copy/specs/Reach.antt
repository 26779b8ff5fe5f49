-- What a term reaches: its reads, its quantifiers, and its free variables. Indices of reads and bodies of quantifiers count as parts.
use Rattle.std.specs.Prelude.{◌≡◌, ℕ, ◌⊎◌, Bool, false, true, nat_eq, List, slice_get, Some, None}
use Rattle.std.specs.Map.{lookup}
use Rattle.hk_term.specs.declared.bounds.Bound.{Bound}
use Rattle.hk_term.specs.declared.node.Node.{Node}
use Rattle.hk_term.specs.declared.node.Node.TheVariants.{Const, Var, Select, Unary, Binary, Choose, Resize, ForAll}
use Rattle.hk_copy.specs.declared.stand.Stand.TheVariants.{Other}
use Rattle.hk_copy.specs.Stands.{Stands, is_bound}

-- a part of a node
abbrev pub IsPart : Node → ℕ → Type 0
IsPart (Const width value) k = ⊥
IsPart (Var width id) k = ⊥
IsPart (Select array width index) k = k ≡ index
IsPart (Unary kind a) k = k ≡ a
IsPart (Binary kind a b) k = (k ≡ a) ⊎ (k ≡ b)
IsPart (Choose condition a b) k = (k ≡ condition) ⊎ ((k ≡ a) ⊎ (k ≡ b))
IsPart (Resize kind to a) k = k ≡ a
IsPart (ForAll bound body) k = k ≡ body

-- a read of an array at a width, or a quantifier over bound variables, as the two properties ask
abbrev pub IsAsked : (ℕ → ℕ → Type 0) → (List Bound → Type 0) → Node → Type 0
IsAsked R Q (Select array width index) = R array width
IsAsked R Q (ForAll bound body) = Q bound
IsAsked R Q _ = ⊥

-- a term reaches a read or a quantifier with a property
pub data Reaches (nodes : List Node) (R : ℕ → ℕ → Type 0) (Q : List Bound → Type 0) : ℕ → Type 0 where
  own : {t : ℕ} (n : Node) → slice_get nodes t ≡ Some n → IsAsked R Q n → Reaches nodes R Q t
  under : {t : ℕ} (n : Node) (a : ℕ) → slice_get nodes t ≡ Some n → IsPart n a → Reaches nodes R Q a → Reaches nodes R Q t

-- a term reads an array at a width
abbrev pub Reads : List Node → ℕ → ℕ → ℕ → Type 0
Reads nodes array size = Reaches nodes (λ a s. (a ≡ array) × (s ≡ size)) (λ b. ⊥)

-- a term has a quantifier over these variables
abbrev pub Quantifies : List Node → List Bound → ℕ → Type 0
Quantifies nodes bound = Reaches nodes (λ a s. ⊥) (λ b. b ≡ bound)

-- a node is this variable, read at this width
abbrev pub IsVariable : ℕ → ℕ → Node → Type 0
IsVariable size id (Var width i) = (width ≡ size) × (i ≡ id)
IsVariable size id _ = ⊥

-- whether a node binds an id in its part
abbrev pub binds : Node → ℕ → Bool
binds (ForAll bound body) id = is_bound bound id
binds _ id = false

-- a variable is free in a term, and is read there at a width
pub data Frees (nodes : List Node) (size id : ℕ) : ℕ → Type 0 where
  itself : {t : ℕ} (n : Node) → slice_get nodes t ≡ Some n → IsVariable size id n → Frees nodes size id t
  within : {t : ℕ} (n : Node) (a : ℕ) → slice_get nodes t ≡ Some n → binds n id ≡ false → IsPart n a → Frees nodes size id a → Frees nodes size id t

-- a variable that a free variable of a term stands for, at its own width
pub record IsStandIn (nodes : List Node) (env : Stands) (size id t : ℕ) : Type 0 where
  pub instead : ℕ
  pub read : ℕ
  pub free : Frees nodes read instead t
  pub stand : lookup (nat_eq instead) env ≡ Some (Other size id)

-- a free variable of a copy: one of the term that stands for nothing, or one that a free variable of the term stands for
abbrev pub IsFreed : List Node → ℕ → ℕ → Stands → ℕ → Type 0
IsFreed nodes size id env t = ((Frees nodes size id t) × (lookup (nat_eq id) env ≡ None)) ⊎ (IsStandIn nodes env size id t)

-- tests of what stands in a list: of a variable its width and id, of a read its array and width, of a quantifier its variables
pub record Tests : Type 0 where
  pub variable : ℕ → ℕ → Bool
  pub read : ℕ → ℕ → Bool
  pub quantifier : List Bound → Bool

-- whether a node passes; constants and operations do
abbrev pub passes : Tests → Node → Bool
passes tests (Var width id) = tests.variable width id
passes tests (Select array width index) = tests.read array width
passes tests (ForAll bound body) = tests.quantifier bound
passes tests _ = true

-- all nodes of a list pass the tests
abbrev pub AllPass : Tests → List Node → Type 0
AllPass tests nodes = (k : ℕ) (n : Node) → slice_get nodes k ≡ Some n → passes tests n ≡ true

-- so do the variables that others stand for
abbrev pub StandsPass : Tests → Stands → Type 0
StandsPass tests env = (i size id : ℕ) → lookup (nat_eq i) env ≡ Some (Other size id) → tests.variable size id ≡ true
