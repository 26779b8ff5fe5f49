-- What is required of the goal's clauses: of each instance and of each quantifier one term, which is true. The literal of that term is
-- the one clause that stands for it beside the clauses of gates.
use Rattle.std.specs.Prelude.{◌≡◌, ℕ, ◌<◌, ◌^◌, List, [], ◌∷◌, map, Some, slice_get}
use Rattle.std.specs.List.{Contains}
use Rattle.hk_term.specs.declared.bounds.Bound.{Bound}
use Rattle.hk_term.specs.declared.node.Node.{Node}
use Rattle.hk_term.specs.declared.node.Node.TheVariants.{Const, Var, Select, Binary, Choose, Resize, ForAll}
use Rattle.hk_term.specs.declared.node.TermKind.TheVariants.{Eq, Ult}
use Rattle.hk_term.specs.declared.node.TermResize.TheVariants.{Zero}
use Rattle.hk_copy.specs.declared.stand.Stand.{Stand}
use Rattle.hk_copy.specs.declared.stand.Stand.TheVariants.{Number, Other}
use Rattle.hk_copy.specs.Stands.{standing}
use Rattle.hk_copy.specs.Copies.{Copies}
use Rattle.hk_blast.specs.Blasted.{IsPart}
use Rattle.hk_inst.specs.declared.instance.Instance.{Instance}
use Rattle.hk_inst.specs.declared.instance.Instance.TheVariants.{Pair, Tuple}
use Rattle.hk_inst.specs.declared.opening.Opening.{Opening}
use Rattle.hk_inst.specs.Inputs.{Table}
use Rattle.hk_inst.specs.Truths.{PairOf, TupleOf}

-- d is "if the places i and j are equal, the values r and s are"; places of any widths are compared at 64 bits
pub record IsAgreement (nodes : List Node) (r s i j d : ℕ) : Type 0 where
  pub wide : ℕ
  pub other_wide : ℕ
  pub places : ℕ
  pub values : ℕ
  pub one : ℕ
  pub wide_is : slice_get nodes wide ≡ Some (Resize Zero 64 i)
  pub other_is : slice_get nodes other_wide ≡ Some (Resize Zero 64 j)
  pub places_is : slice_get nodes places ≡ Some (Binary Eq wide other_wide)
  pub values_is : slice_get nodes values ≡ Some (Binary Eq r s)
  pub one_is : slice_get nodes one ≡ Some (Const 1 1)
  pub is : slice_get nodes d ≡ Some (Choose places values one)

-- d is "if q is true, b is"
pub record IsImplication (nodes : List Node) (q b d : ℕ) : Type 0 where
  pub one : ℕ
  pub one_is : slice_get nodes one ≡ Some (Const 1 1)
  pub is : slice_get nodes d ≡ Some (Choose q b one)

-- d is "the variables are below the sizes of the bound ones for which they stand, and b is false"
pub data IsRefutation (nodes : List Node) (b : ℕ) : List Bound → List Stand → ℕ → Type 0 where
  ended : {d : ℕ} (false_ true_ : ℕ) → slice_get nodes false_ ≡ Some (Const 1 0) → slice_get nodes true_ ≡ Some (Const 1 1) → slice_get nodes d ≡ Some (Choose b false_ true_) → IsRefutation nodes b [] [] d
  ranged : {bound : Bound} {bs : List Bound} {ss : List Stand} {d : ℕ} (width id z size test rest false_ : ℕ) → bound.size < 2 ^ width → slice_get nodes z ≡ Some (Var width id) → slice_get nodes size ≡ Some (Const width bound.size) → slice_get nodes test ≡ Some (Binary Ult z size) → slice_get nodes false_ ≡ Some (Const 1 0) → slice_get nodes d ≡ Some (Choose test rest false_) → IsRefutation nodes b bs ss rest → IsRefutation nodes b (bound ∷ bs) (Other width id ∷ ss) d

-- d is "q is true, or these variables are a tuple at which b, the body, is false"
pub record IsChoice (nodes : List Node) (q b : ℕ) (bound : List Bound) (stands : List Stand) (d : ℕ) : Type 0 where
  pub one : ℕ
  pub rest : ℕ
  pub one_is : slice_get nodes one ≡ Some (Const 1 1)
  pub is : slice_get nodes d ≡ Some (Choose q one rest)
  pub refutation : IsRefutation nodes b bound stands rest

-- a quantifier with its variables, its body at them, and the term that is required of it
pub record IsOpening (nodes : List Node) (o : Opening) : Type 0 where
  pub bound : List Bound
  pub body : ℕ
  pub at : slice_get nodes o.term ≡ Some (ForAll bound body)
  pub copies : Copies nodes (standing bound o.stands) body o.copy
  pub choice : IsChoice nodes o.term o.copy bound o.stands o.demand

-- d is the term that is required of an instance: of two reads that they agree, of a quantifier with a tuple that it implies its body there
abbrev pub IsDemand : List Node → Table → Instance → ℕ → Type 0
IsDemand nodes table (Pair a b) d = (p : PairOf nodes table a b) × (IsAgreement nodes p.first p.second p.place p.other_place d)
IsDemand nodes table (Tuple k ks) d = (q : TupleOf nodes table k ks) × (b : ℕ) × (Copies nodes (standing q.bound (map Number ks)) q.body b) × (IsImplication nodes q.term b d)

-- the terms of the goal and of instances: the goal, the required terms of instances and of quantifiers that are among them, the parts of all
-- these, and the places of their reads. The body of a quantifier is not among them, but its copies are.
pub data IsMentioned (nodes : List Node) (goal : ℕ) (instances : List Instance) (table : Table) : ℕ → Type 0 where
  goal : IsMentioned nodes goal instances table goal
  part : (t k : ℕ) (n : Node) → slice_get nodes t ≡ Some n → IsPart n k → IsMentioned nodes goal instances table t → IsMentioned nodes goal instances table k
  place : (t array size i : ℕ) → slice_get nodes t ≡ Some (Select array size i) → IsMentioned nodes goal instances table t → IsMentioned nodes goal instances table i
  refuted : (o : Opening) → Contains table.openings o → IsMentioned nodes goal instances table o.term → IsMentioned nodes goal instances table o.demand
  added : (i : Instance) (d : ℕ) → Contains instances i → IsDemand nodes table i d → IsMentioned nodes goal instances table d
