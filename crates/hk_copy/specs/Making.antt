-- What is known while a copy is made.
use Rattle.std.specs.Prelude.{◌≡◌, ℕ, ◌<◌, ◌≤◌, ◌⊎◌, if◌then◌else◌, true, List, length, slice_get, Some, None, is_some, unwrap_or, zero, suc, ◌+◌}
use Rattle.std.specs.BTreeMap as tree
use Rattle.std.specs.BTreeMap.{BTreeMap}
use Rattle.std.specs.Ordering.{nat_cmp}
use Rattle.hk_term.specs.Shape.{IsWidth, NodeFits, node_width, width, Grows}
use Rattle.hk_term.specs.Meaning.{Reading, node_value, value}
use Rattle.hk_term.specs.declared.node.Node.{Node}
use Rattle.hk_term.specs.declared.node.Node.TheVariants.{Const, Var, Select, Unary, Binary, Choose, Resize, ForAll}
use Rattle.hk_copy.specs.declared.walk.Outcome.{Outcome}
use Rattle.hk_copy.specs.declared.walk.Outcome.TheVariants.{Copied, Waits}
use Rattle.hk_copy.specs.declared.walk.Plan.{Plan}
use Rattle.hk_copy.specs.declared.walk.Plan.TheVariants.{Wait, Variable, Make, Inside}
use Rattle.hk_copy.specs.Stands.{Stands}
use Rattle.hk_copy.specs.Copies.{Copies}
use Rattle.hk_copy.specs.Reach.{Tests, passes, AllPass}

-- the copy of a term in a table of copies
abbrev pub copy_in : BTreeMap ℕ ℕ → ℕ → ℕ
copy_in copies k = unwrap_or (tree.get nat_cmp copies k) 0

-- a term has a copy in a table
abbrev pub HasCopy : BTreeMap ℕ ℕ → ℕ → Type 0
HasCopy copies k = tree.get nat_cmp copies k ≡ Some (copy_in copies k)

-- all that a table has are copies
abbrev pub AllCopies : List Node → Stands → BTreeMap ℕ ℕ → Type 0
AllCopies nodes env copies = (k r : ℕ) → tree.get nat_cmp copies k ≡ Some r → Copies nodes env k r

-- a node over other parts
abbrev pub renewed : (ℕ → ℕ) → Node → Node
renewed f (Const width value) = Const width value
renewed f (Var width id) = Var width id
renewed f (Select array width index) = Select array width (f index)
renewed f (Unary kind a) = Unary kind (f a)
renewed f (Binary kind a b) = Binary kind (f a) (f b)
renewed f (Choose condition a b) = Choose (f condition) (f a) (f b)
renewed f (Resize kind to a) = Resize kind to (f a)
renewed f (ForAll bound body) = ForAll bound (f body)

-- a node's parts have copies in a table
abbrev pub PartsIn : BTreeMap ℕ ℕ → Node → Type 0
PartsIn copies (Const width value) = Unit {0}
PartsIn copies (Var width id) = Unit {0}
PartsIn copies (Select array width index) = HasCopy copies index
PartsIn copies (Unary kind a) = HasCopy copies a
PartsIn copies (Binary kind a b) = (HasCopy copies a) × (HasCopy copies b)
PartsIn copies (Choose condition a b) = (HasCopy copies condition) × (HasCopy copies a) × (HasCopy copies b)
PartsIn copies (Resize kind to a) = HasCopy copies a
PartsIn copies (ForAll bound body) = HasCopy copies body

-- a constant, a read or an operation: a node whose value those of its parts give
abbrev pub IsOperation : Node → Type 0
IsOperation (Var width id) = ⊥
IsOperation (ForAll bound body) = ⊥
IsOperation _ = Unit {0}

-- a node, or the constant that it is under every reading
abbrev pub IsFolded : List Node → Node → Node → Type 0
IsFolded nodes node made =
    (made ≡ node) ⊎ ((n : ℕ) × (made ≡ Const (node_width node (width nodes)) n) × ((v : Reading) → node_value node (value nodes) (width nodes) v ≡ n))

-- a plan for the copy of a term: to wait for an earlier term that has none, to copy a variable, a node that is the copy in each longer
-- list and passes what all nodes pass, or to copy a quantifier's body under fewer stands
abbrev pub IsPlan : List Node → Stands → BTreeMap ℕ ℕ → ℕ → Plan → Type 0
IsPlan nodes env copies t (Wait part) = (part < t) × (tree.get nat_cmp copies part ≡ None)
IsPlan nodes env copies t (Variable size id) = (slice_get nodes t ≡ Some (Var size id)) × (IsWidth size)
IsPlan nodes env copies t (Make node) =
    (NodeFits (length nodes) (width nodes) node) × ((new : List Node) (r : ℕ) → Grows nodes new → slice_get new r ≡ Some node → Copies new env t r)
    × ((tests : Tests) → AllPass tests nodes → passes tests node ≡ true)
IsPlan nodes env copies t (Inside bound body) = (slice_get nodes t ≡ Some (ForAll bound body)) × (body < t) × (width nodes body ≡ 1)

-- how many of the first n terms have no copy
abbrev pub missing : BTreeMap ℕ ℕ → ℕ → ℕ
missing copies zero = 0
missing copies (suc n) = missing copies n + (if is_some (tree.get nat_cmp copies n) then 0 else 1)

-- a walk for a term stands at the term, or at an earlier one that has no copy
abbrev pub IsStanding : BTreeMap ℕ ℕ → ℕ → ℕ → Type 0
IsStanding copies term at = (at ≤ term) × ((at ≡ term) ⊎ (tree.get nat_cmp copies at ≡ None))

-- what a step of the walk comes to: the copy of a term, or an earlier term that has none
abbrev pub IsOutcome : List Node → Stands → BTreeMap ℕ ℕ → ℕ → Outcome → Type 0
IsOutcome nodes env copies t (Copied r) = Copies nodes env t r
IsOutcome nodes env copies t (Waits part) = (part < t) × (tree.get nat_cmp copies part ≡ None)
