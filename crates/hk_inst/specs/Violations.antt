-- Instances that an assignment violates.
use Rattle.std.specs.Prelude.{◌≡◌, ℕ, ◌+◌, ◌++◌, false, if◌then◌else◌, List, [], ◌∷◌, Some, slice_get}
use Rattle.hk_term.specs.Meaning.{Reading, value}
use Rattle.hk_term.specs.declared.bounds.Bound.{Bound}
use Rattle.hk_term.specs.declared.node.Node.{Node}
use Rattle.hk_term.specs.declared.node.Node.TheVariants.{Select, ForAll}
use Rattle.hk_copy.specs.Stands.{with_tuple}
use Rattle.hk_inst.specs.declared.instance.Instance.{Instance}
use Rattle.hk_inst.specs.declared.instance.Instance.TheVariants.{Tuple}
use Rattle.hk_inst.specs.Inputs.{Table, is_read_at, entry_number}
use Rattle.hk_inst.specs.Truths.{IsTuple, IsInstance, IsTrue, is_among}
use Rattle.hk_inst.specs.Questions.{Asked}

-- an instance is violated where the terms of the table are the numbers f and r reads all else: its numbers name what it speaks of, it was
-- not added, and it is not true
pub record IsViolated (q : Asked) (f : ℕ → ℕ) (r : Reading) (i : Instance) : Type 0 where
  pub names : IsInstance q.nodes q.table i
  pub fresh : is_among q.instances i ≡ false
  pub not_true : IsTrue q.nodes q.table f r i → ⊥

-- the number of the first read of the array at the place, where the first of these has the number k, and 0 where none is
abbrev pub first_read : List Node → (ℕ → ℕ) → List ℕ → ℕ → ℕ → ℕ → ℕ
first_read nodes f [] k array place = 0
first_read nodes f (r ∷ rs) k array place = if is_read_at (slice_get nodes r) f array place then k else first_read nodes f rs (k + 1) array place

-- a term has the number of the first read at its place, if it is a read
abbrev pub AgreesWithFirst : List Node → (ℕ → ℕ) → List ℕ → ℕ → Type 0
AgreesWithFirst nodes f reads t = (array size i : ℕ) → slice_get nodes t ≡ Some (Select array size i) → f t ≡ entry_number nodes f reads array (f i)

-- the read of a number is at the place of this one, and their values differ
pub record Clashes (nodes : List Node) (table : Table) (f : ℕ → ℕ) (j t : ℕ) : Type 0 where
  pub array : ℕ
  pub first : ℕ
  pub size : ℕ
  pub place : ℕ
  pub other_size : ℕ
  pub other_place : ℕ
  pub first_at : slice_get table.reads j ≡ Some first
  pub first_is : slice_get nodes first ≡ Some (Select array size place)
  pub is : slice_get nodes t ≡ Some (Select array other_size other_place)
  pub equal : f place ≡ f other_place
  pub differ : f first ≡ f t → ⊥

-- a search for tuples of a true quantifier stands behind the first numbers of a tuple: what is bound is left, and v has these numbers
pub record IsSearch (q : Asked) (f : ℕ → ℕ) (r : Reading) (k body : ℕ) (bound : List Bound) (first : List ℕ) (v : Reading) : Type 0 where
  pub term : ℕ
  pub whole : List Bound
  pub at : slice_get q.table.quantifiers k ≡ Some term
  pub is : slice_get q.nodes term ≡ Some (ForAll whole body)
  pub holds : f term ≡ 1
  pub fits : (ks : List ℕ) → IsTuple bound ks → IsTuple whole (first ++ ks)
  pub reads : (ks : List ℕ) → IsTuple bound ks → with_tuple whole (first ++ ks) r ≡ with_tuple bound ks v

-- the body of a quantifier is true at every tuple that was not added, among those with these first numbers; v has these numbers
abbrev pub AllTried : List Node → List Instance → ℕ → ℕ → List Bound → List ℕ → Reading → Type 0
AllTried nodes instances k body bound first v = (ks : List ℕ) → IsTuple bound ks → is_among instances (Tuple k (first ++ ks)) ≡ false → value nodes body (with_tuple bound ks v) ≡ 1
