-- Instances, and when they are true.
use Rattle.std.specs.Prelude.{◌≡◌, ℕ, ◌<◌, Bool, false, ◌&&◌, nat_eq, List, [], ◌∷◌, Some, slice_get}
use Rattle.std.specs.List.{list_any}
use Rattle.std.specs.Cmp.Lexicographic.{pointwise}
use Rattle.hk_term.specs.Meaning.{Reading, value}
use Rattle.hk_term.specs.declared.bounds.Bound.{Bound}
use Rattle.hk_term.specs.declared.node.Node.{Node}
use Rattle.hk_term.specs.declared.node.Node.TheVariants.{Select, ForAll}
use Rattle.hk_copy.specs.Stands.{with_tuple}
use Rattle.hk_inst.specs.declared.instance.Instance.{Instance}
use Rattle.hk_inst.specs.declared.instance.Instance.TheVariants.{Pair, Tuple}
use Rattle.hk_inst.specs.Inputs.{Table}

-- a number for each bound variable, below its size
abbrev pub IsTuple : List Bound → List ℕ → Type 0
IsTuple [] [] = Unit {0}
IsTuple [] (k ∷ ks) = ⊥
IsTuple (b ∷ bs) [] = ⊥
IsTuple (b ∷ bs) (k ∷ ks) = (k < b.size) × (IsTuple bs ks)

-- two numbers name reads of one array
pub record PairOf (nodes : List Node) (table : Table) (a b : ℕ) : Type 0 where
  pub array : ℕ
  pub first : ℕ
  pub size : ℕ
  pub place : ℕ
  pub second : ℕ
  pub other_size : ℕ
  pub other_place : ℕ
  pub first_at : slice_get table.reads a ≡ Some first
  pub second_at : slice_get table.reads b ≡ Some second
  pub first_is : slice_get nodes first ≡ Some (Select array size place)
  pub second_is : slice_get nodes second ≡ Some (Select array other_size other_place)

-- a number names a quantifier, and the indices are a tuple of its variables
pub record TupleOf (nodes : List Node) (table : Table) (k : ℕ) (ks : List ℕ) : Type 0 where
  pub term : ℕ
  pub bound : List Bound
  pub body : ℕ
  pub at : slice_get table.quantifiers k ≡ Some term
  pub is : slice_get nodes term ≡ Some (ForAll bound body)
  pub fits : IsTuple bound ks

-- the numbers of an instance name what it speaks of
abbrev pub IsInstance : List Node → Table → Instance → Type 0
IsInstance nodes table (Pair a b) = PairOf nodes table a b
IsInstance nodes table (Tuple k ks) = TupleOf nodes table k ks

-- an instance is true, where the terms that the table has are the numbers f, and what it does not have is read by r: the values of two reads
-- agree if their places are equal; the quantifier is false, or its body is true at the tuple
abbrev pub IsTrue : List Node → Table → (ℕ → ℕ) → Reading → Instance → Type 0
IsTrue nodes table f r (Pair a b) = (p : PairOf nodes table a b) → f p.place ≡ f p.other_place → f p.first ≡ f p.second
IsTrue nodes table f r (Tuple k ks) = (q : TupleOf nodes table k ks) → f q.term ≡ 1 → value nodes q.body (with_tuple q.bound ks r) ≡ 1

abbrev pub same_instance : Instance → Instance → Bool
same_instance (Pair a b) (Pair c d) = nat_eq a c && nat_eq b d
same_instance (Pair a b) (Tuple k ks) = false
same_instance (Tuple k ks) (Pair a b) = false
same_instance (Tuple k ks) (Tuple j js) = nat_eq k j && pointwise nat_eq ks js

-- the instance is among these
abbrev pub is_among : List Instance → Instance → Bool
is_among instances i = list_any (same_instance i) instances
