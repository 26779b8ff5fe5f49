-- What a term reaches, and the list that has nothing else.
use Rattle.std.specs.Prelude.{◌≡◌, ◌<◌, ◌≤◌, ◌+◌, ℕ, Bool, true, false, Some, List, length, slice_get, slice_index, slice_index_or}
use Rattle.hk_term.specs.Shape.{width}
use Rattle.hk_term.specs.Meaning.{Reading, value}
use Rattle.hk_term.specs.declared.node.Node.{Node}
use Rattle.hk_copy.specs.Reach.{IsPart}
use Rattle.hk_copy.specs.Making.{renewed}

-- a term reaches itself, and the parts of what it reaches
pub data Reaches (nodes : List Node) (root : ℕ) : ℕ → Type 0 where
  itself : {t : ℕ} → t ≡ root → Reaches nodes root t
  under : {a : ℕ} (t : ℕ) (n : Node) → Reaches nodes root t → slice_get nodes t ≡ Some n → IsPart n a → Reaches nodes root a

-- a node of a list over other parts
pub record IsRenewal (nodes : List Node) (n : Node) : Type 0 where
  pub place : ℕ
  pub node : Node
  pub at : slice_get nodes place ≡ Some node
  pub parts : ℕ → ℕ
  pub is : n ≡ renewed parts node

-- ---- while the terms are marked

abbrev pub is_marked : List Bool → ℕ → Bool
is_marked marks k = slice_index_or marks k false

-- the parts of the marked terms from a place on are marked
abbrev pub AreClosedFrom : List Node → List Bool → ℕ → Type 0
AreClosedFrom nodes marks from =
    (k a : ℕ) (n : Node) → from ≤ k → is_marked marks k ≡ true → slice_get nodes k ≡ Some n → IsPart n a → is_marked marks a ≡ true

-- a term is marked, with what it reaches by terms from a place on, and nothing is marked that it does not reach
pub record AreMarked (nodes : List Node) (root from : ℕ) (marks : List Bool) : Type 0 where
  pub size : length marks ≡ root + 1
  pub top : is_marked marks root ≡ true
  pub closed : AreClosedFrom nodes marks from
  pub only : (k : ℕ) → is_marked marks k ≡ true → Reaches nodes root k

-- ---- while they are copied

-- a term and its copy
pub record IsCopy (old new : List Node) (t r : ℕ) : Type 0 where
  pub within : r < length new
  pub width_is : width new r ≡ width old t
  pub value_is : (v : Reading) → value new r v ≡ value old t v

-- the copies of the marked terms among the first ones stand at these places, and the list has nothing else
pub record AreCopied (old : List Node) (marks : List Bool) (new : List Node) (places : List ℕ) : Type 0 where
  pub copies : (k : ℕ) → k < length places → is_marked marks k ≡ true → IsCopy old new k (slice_index places k)
  pub nodes : (k : ℕ) (n : Node) → k < length places → is_marked marks k ≡ true → slice_get old k ≡ Some n → slice_get new (slice_index places k) ≡ Some (renewed (slice_index places) n)
  pub from : (r : ℕ) → r < length new → (k : ℕ) × (k < length places) × (is_marked marks k ≡ true) × (slice_index places k ≡ r)
