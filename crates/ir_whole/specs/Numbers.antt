-- Numbers of the whole types that names stand for.
use Rattle.std.specs.Prelude.{◌≡◌, ℕ, ◌<◌, Bool, true, false, Option, Some, None, List, [], ◌∷◌, length, slice_get, slice_index, bytes_eq}
use Rattle.std.specs.List.{All, IsDistinct}
use Rattle.ir_ast.specs.Plain.{Ty, Tys, named}
use Rattle.ir_ast.specs.Table.{names_of, place_of}
use Rattle.ir_type.specs.Whole.{Types, whole, with_part}
use Rattle.ir_type.specs.Cycles.{name_at}
use Rattle.ir_whole.specs.declared.head.Head.{Head}
use Rattle.ir_whole.specs.declared.head.Head.TheVariants.{Opaque}
use Rattle.ir_whole.specs.declared.numbers.TypeNumbers.{TypeNumbers}
use Rattle.ir_whole.specs.Heads.{type_at, types_by, RowFits, Stands}

-- the number that is kept at a place
abbrev pub number_at : List ℕ → Option ℕ → ℕ
number_at numbers None = 0
number_at numbers (Some place) = slice_index numbers place

-- the number that is kept of a name
abbrev pub look_in : {E : Type 0} → List (List ℕ × E) → List ℕ → List ℕ → ℕ
look_in entries numbers x = number_at numbers (place_of x entries)

-- the numbers of all names stand for what the names do
abbrev pub Looks : {E : Type 0} → List (List ℕ × E) → List ℕ → List Ty → (List ℕ → Option Ty) → Type 0
Looks entries numbers types s = (x : List ℕ) → Stands types (look_in entries numbers x) (s x)

abbrev pub AreBelow : ℕ → List ℕ → Type 0
AreBelow n numbers = All (λ x. x < n) numbers

-- fields by their numbers, and others behind them
abbrev pub fronted : List Ty → List ℕ → Option Tys → Option Tys
fronted types [] rest = rest
fronted types (p ∷ row) rest = with_part (Some (type_at types p)) (fronted types row rest)

abbrev pub MayFit : ℕ → Option (List ℕ) → Type 0
MayFit n None = Unit {0}
MayFit n (Some row) = RowFits n row

-- ---- all of a table

-- the whole types by number
abbrev pub types_of : TypeNumbers → List Ty
types_of numbers = types_by numbers.heads

-- the numbers of named types, by their places
pub record AreNamed (types : Types) (heads : List Head) (numbers : List ℕ) : Type 0 where
  pub distinct : IsDistinct bytes_eq (names_of types)
  pub count : length numbers ≡ length types
  pub below : AreBelow (length heads) numbers
  pub first : slice_get heads 0 ≡ Some Opaque
  pub each : (p : ℕ) → p < length types → Stands (types_by heads) (slice_index numbers p) (whole types (named (name_at types p)))

-- the numbers are of the types of a table
abbrev pub IsFor : Types → TypeNumbers → Type 0
IsFor types numbers = AreNamed types numbers.heads numbers.named.items

-- the numbers so far: of the first types of an order
pub record IsFilled (types : Types) (nodes : List ℕ) (k : ℕ) (heads : List Head) (numbers : List ℕ) : Type 0 where
  pub count : length numbers ≡ length types
  pub below : AreBelow (length heads) numbers
  pub first : slice_get heads 0 ≡ Some Opaque
  pub each : (i : ℕ) → i < k → i < length nodes → Stands (types_by heads) (slice_index numbers (slice_index nodes i)) (whole types (named (name_at types (slice_index nodes i))))

-- what a named type stands for: none where it contains itself
abbrev pub node_whole : Bool → Option Ty → Option Ty
node_whole true o = None
node_whole false o = o
