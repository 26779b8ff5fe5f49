-- How numbers are kept while a term is computed: for each term a number, and a mark that says of which reading it is.
-- A term that waits for its parts has the mark 0, and as its number the term that waits for it.
use Rattle.std.specs.Prelude.{◌≡◌, ◌≢◌, ℕ, ◌+◌, ◌*◌, ◌^◌, ◌<◌, ◌≤◌, ◌⊎◌, if◌then◌else◌, nat_eq, List, [], ◌∷◌, slice_index}
use Rattle.hk_term.specs.Shape.{width}
use Rattle.hk_term.specs.Meaning.{Reading, with_var, value}
use Rattle.hk_term.specs.declared.node.Node.{Node}
use Rattle.hk_term.specs.declared.node.Node.TheVariants.{Const, Var, Select, Unary, Binary, Choose, Resize, ForAll}

-- the reading with numbers for bound variables, the innermost first
abbrev pub scoped : Reading → List (ℕ × ℕ) → Reading
scoped v [] = v
scoped v (b ∷ bs) = with_var (scoped v bs) b.0 b.1

-- the marks of a node's parts are this stamp; a quantifier's body is no part here
abbrev pub PartsDone : Node → List ℕ → ℕ → Type 0
PartsDone (Const width number) marks stamp = Unit {0}
PartsDone (Var width id) marks stamp = Unit {0}
PartsDone (Select array width index) marks stamp = slice_index marks index ≡ stamp
PartsDone (Unary kind a) marks stamp = slice_index marks a ≡ stamp
PartsDone (Binary kind a b) marks stamp = (slice_index marks a ≡ stamp) × (slice_index marks b ≡ stamp)
PartsDone (Choose condition a b) marks stamp =
    (slice_index marks condition ≡ stamp) × (slice_index marks a ≡ stamp) × (slice_index marks b ≡ stamp)
PartsDone (Resize kind to a) marks stamp = slice_index marks a ≡ stamp
PartsDone (ForAll bound body) marks stamp = Unit {0}

-- a node's parts stand before t; a quantifier's body too
abbrev pub PartsBefore : Node → ℕ → Type 0
PartsBefore (Const width number) t = Unit {0}
PartsBefore (Var width id) t = Unit {0}
PartsBefore (Select array width index) t = index < t
PartsBefore (Unary kind a) t = a < t
PartsBefore (Binary kind a b) t = (a < t) × (b < t)
PartsBefore (Choose condition a b) t = (condition < t) × (a < t) × (b < t)
PartsBefore (Resize kind to a) t = a < t
PartsBefore (ForAll bound body) t = body < t

-- no quantifier
abbrev pub IsGround : Node → Type 0
IsGround (ForAll bound body) = ⊥
IsGround _ = Unit {0}

-- a term has its number: its value, which its width holds
abbrev pub HasNumber : List Node → Reading → List ℕ → ℕ → Type 0
HasNumber nodes r values a = (slice_index values a ≡ value nodes a r) × (slice_index values a < 2 ^ width nodes a)

-- a node's parts have their numbers
abbrev pub PartsKnown : Node → List Node → Reading → List ℕ → Type 0
PartsKnown (Const width number) nodes r values = Unit {0}
PartsKnown (Var width id) nodes r values = Unit {0}
PartsKnown (Select array width index) nodes r values = HasNumber nodes r values index
PartsKnown (Unary kind a) nodes r values = HasNumber nodes r values a
PartsKnown (Binary kind a b) nodes r values = (HasNumber nodes r values a) × (HasNumber nodes r values b)
PartsKnown (Choose condition a b) nodes r values =
    (HasNumber nodes r values condition) × (HasNumber nodes r values a) × (HasNumber nodes r values b)
PartsKnown (Resize kind to a) nodes r values = HasNumber nodes r values a
PartsKnown (ForAll bound body) nodes r values = Unit {0}

-- a term with this mark has its number
abbrev pub Known : List Node → Reading → ℕ → List ℕ → List ℕ → Type 0
Known nodes r stamp values marks = (k : ℕ) → slice_index marks k ≡ stamp → slice_index values k ≡ value nodes k r

-- no mark is later than the clock
abbrev pub IsTimed : List ℕ → ℕ → Type 0
IsTimed marks clock = (k : ℕ) → slice_index marks k ≤ clock

-- no term has this mark
abbrev pub IsFresh : List ℕ → ℕ → Type 0
IsFresh marks stamp = (k : ℕ) → slice_index marks k ≢ stamp

-- what a computation keeps: numbers from a term on, with their marks up to a base; and a mark from 1 to the base is old, with its number
pub record Keeps (from base : ℕ) (values marks values' marks' : List ℕ) : Type 0 where
  pub numbers : (k : ℕ) → from ≤ k → slice_index values' k ≡ slice_index values k
  pub marked : (k : ℕ) → from ≤ k → slice_index marks k ≤ base → slice_index marks' k ≡ slice_index marks k
  pub old : (k : ℕ) → 0 < slice_index marks' k → slice_index marks' k ≤ base → (slice_index marks' k ≡ slice_index marks k) × (slice_index values' k ≡ slice_index values k)

-- the way from a term that waits up to t
pub data Path (values marks : List ℕ) (t : ℕ) : ℕ → Type 0 where
  top : (k : ℕ) → k ≡ t → slice_index marks k ≡ 0 → slice_index values k ≡ k → Path values marks t k
  up : (k next : ℕ) → k < next → slice_index marks k ≡ 0 → slice_index values k ≡ next → Path values marks t next → Path values marks t k

-- a computation of t stands at a term: t is done, or a way leads up to it
pub record Standing (nodes : List Node) (r : Reading) (stamp t : ℕ) (values marks : List ℕ) (clock at : ℕ) : Type 0 where
  pub at_most : at ≤ t
  pub known : Known nodes r stamp values marks
  pub stands : (slice_index marks t ≡ stamp) ⊎ (Path values marks t at)
  pub timed : IsTimed marks clock
  pub past : stamp ≤ clock

-- what is left to do: each term that is not done counts for more than all before it
abbrev pub weight : ℕ → List ℕ → ℕ
weight stamp [] = 0
weight stamp (m ∷ ms) = (if nat_eq m stamp then 0 else 1) + 2 * weight stamp ms
