-- Whole types by number: each is a head over the types before it.
use Rattle.std.specs.Prelude.{◌≡◌, ℕ, ◌<◌, Option, Some, None, List, [], ◌∷◌, ◌++◌, slice_get, slice_index_or}
use Rattle.std.specs.List.{All}
use Rattle.ir_ast.specs.Plain.{Ty, Tys, nothing, integer, pointer, array, structure, packed, opaque, no_types, type_and}
use Rattle.ir_whole.specs.declared.head.Head.{Head}
use Rattle.ir_whole.specs.declared.head.Head.TheVariants.{Opaque, Void, Int, Ptr, Array, Struct, Packed}

-- the type with a number
abbrev pub type_at : List Ty → ℕ → Ty
type_at types n = slice_index_or types n opaque

abbrev pub fields : List Ty → List ℕ → Tys
fields types [] = no_types
fields types (p ∷ row) = type_and (type_at types p) (fields types row)

-- what a head is over types by number
abbrev pub type_of : List Ty → Head → Ty
type_of types Opaque = opaque
type_of types Void = nothing
type_of types (Int w) = integer w
type_of types Ptr = pointer
type_of types (Array n element) = array n (type_at types element)
type_of types (Struct row) = structure (fields types row)
type_of types (Packed row) = packed (fields types row)

abbrev pub types_from : List Ty → List Head → List Ty
types_from before [] = before
types_from before (h ∷ heads) = types_from (before ++ type_of before h ∷ []) heads

-- the types of heads, each over those before it
abbrev pub types_by : List Head → List Ty
types_by heads = types_from [] heads

-- numbers of types that stand for one, below a number
abbrev pub RowFits : ℕ → List ℕ → Type 0
RowFits n [] = Unit {0}
RowFits n (p ∷ row) = (0 < p) × (p < n) × RowFits n row

-- the parts of a head stand for types, below a number
abbrev pub HeadFits : ℕ → Head → Type 0
HeadFits n Opaque = ⊥
HeadFits n Void = Unit {0}
HeadFits n (Int w) = Unit {0}
HeadFits n Ptr = Unit {0}
HeadFits n (Array length element) = (0 < element) × (element < n)
HeadFits n (Struct row) = RowFits n row
HeadFits n (Packed row) = RowFits n row

-- the parts of a head are below a number
abbrev pub IsWithin : ℕ → Head → Type 0
IsWithin n (Array length element) = element < n
IsWithin n (Struct row) = All (λ p. p < n) row
IsWithin n (Packed row) = All (λ p. p < n) row
IsWithin n _ = Unit {0}

-- number 0 is the type of nothing, each other head fits behind those before it, and none stands twice
pub record AreHeads (heads : List Head) : Type 0 where
  pub first : slice_get heads 0 ≡ Some Opaque
  pub fit : (k : ℕ) (h : Head) → 0 < k → slice_get heads k ≡ Some h → HeadFits k h
  pub once : (i j : ℕ) (h : Head) → slice_get heads i ≡ Some h → slice_get heads j ≡ Some h → i ≡ j

-- a list grew at its end alone
pub record Grows {A : Type 0} (old new : List A) : Type 0 where
  pub more : List A
  pub is : new ≡ old ++ more

-- a number stands for a whole type: 0 where there is none
abbrev pub Stands : List Ty → ℕ → Option Ty → Type 0
Stands types n None = n ≡ 0
Stands types n (Some t) = (0 < n) × (slice_get types n ≡ Some t)

-- numbers stand for the parts of a struct
abbrev pub StandsRow : List Ty → Option (List ℕ) → Option Tys → Type 0
StandsRow types None parts = parts ≡ None
StandsRow types (Some row) parts = parts ≡ Some (fields types row)
