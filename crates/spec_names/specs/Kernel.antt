-- What a specification may name of a checked kernel: its objects with their shapes, and its functions with what they call.
use Rattle.std.specs.Prelude.{◌≡◌, ℕ, zero, suc, Bool, true, false, Option, Some, None, option_map, option_and_then, List, [], ◌∷◌, ◌++◌, map, slice_get, bytes_eq, position, Contains, codes, nat_eq}
use Rattle.std.specs.List.{starts_with}

abbrev pub Name : Type 0
Name = List ℕ

mutual
  -- an integer of so many bytes; elements by their count, their distance in bytes and their shape; a struct's fields
  pub data Shape : Type 0 where
    word : ℕ → Shape
    row : ℕ → ℕ → Shape → Shape
    fields : Parts → Shape

  -- each field by its offset in bytes and its shape, from field 0 on
  pub data Parts : Type 0 where
    no_parts : Parts
    part_and : ℕ → Shape → Parts → Parts

-- a global: its name, its bytes and its shape
pub record Global : Type 0 where
  pub name : Name
  pub size : ℕ
  pub shape : Shape

-- of a parameter or a result: an integer of a width, or a pointer
pub data ValueType : Type 0 where
  number : ℕ → ValueType
  address : ValueType

-- a function with a body, or a declared one. The result is none for void. The calls are those of all instructions of the body, in any
-- order, as often as they stand there
pub record Function : Type 0 where
  pub name : Name
  pub parameters : List ValueType
  pub result : Option ValueType
  pub defined : Bool
  pub calls : List Name

pub record Kernel : Type 0 where
  pub globals : List Global
  pub functions : List Function

-- ---- by name: the first of that name, and there is no second in a checked kernel

abbrev pub global_place : Kernel → Name → Option ℕ
global_place k x = position (bytes_eq x) (map (λ g. g.name) k.globals)

abbrev pub function_place : Kernel → Name → Option ℕ
function_place k x = position (bytes_eq x) (map (λ f. f.name) k.functions)

abbrev pub global_named : Kernel → Name → Option Global
global_named k x = option_and_then (slice_get k.globals) (global_place k x)

abbrev pub function_named : Kernel → Name → Option Function
function_named k x = option_and_then (slice_get k.functions) (function_place k x)

abbrev pub shape_of : Kernel → Name → Option Shape
shape_of k x = option_map (λ g. g.shape) (global_named k x)

-- ---- steps into a shape

-- an array's count, its stride in bytes and its element
pub record Elements : Type 0 where
  pub count : ℕ
  pub stride : ℕ
  pub shape : Shape

abbrev pub elements_of : Shape → Option Elements
elements_of (row count stride shape) = Some (record { count = count; stride = stride; shape = shape })
elements_of _ = None

-- a field's offset in bytes and its shape
pub record Part : Type 0 where
  pub offset : ℕ
  pub shape : Shape

abbrev pub part_at : ℕ → Parts → Option Part
part_at k no_parts = None
part_at zero (part_and offset shape others) = Some (record { offset = offset; shape = shape })
part_at (suc k) (part_and offset shape others) = part_at k others

abbrev pub part_of : ℕ → Shape → Option Part
part_of k (fields parts) = part_at k parts
part_of k _ = None

-- the bytes of an integer
abbrev pub bytes_of : Shape → Option ℕ
bytes_of (word n) = Some n
bytes_of _ = None

-- ---- calls

-- the body of f calls g
abbrev pub Calls : Kernel → Name → Name → Type 0
Calls k f g = (function : Function) × (function_named k f ≡ Some function) × (function.defined ≡ true) × Contains function.calls g

-- from f on, each calls the next
abbrev pub IsCallPath : Kernel → Name → List Name → Type 0
IsCallPath k f [] = Unit {0}
IsCallPath k f (g ∷ path) = Calls k f g × IsCallPath k g path

-- f comes to g by one call or more
abbrev pub Reaches : Kernel → Name → Name → Type 0
Reaches k f g = (path : List Name) × IsCallPath k f (path ++ g ∷ [])

abbrev pub IsDeclared : Kernel → Name → Type 0
IsDeclared k g = (function : Function) × (function_named k g ≡ Some function) × (function.defined ≡ false)

-- a declared function of a checked kernel whose name begins so is a listed intrinsic
abbrev pub is_intrinsic : Name → Bool
is_intrinsic g = starts_with nat_eq g (codes "llvm.")
