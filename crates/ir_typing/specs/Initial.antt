-- Initialisers against types by number, as the code goes over them.
use Rattle.std.specs.Prelude.{ℕ, zero, suc, Bool, true, false, ◌&&◌, ◌==◌, Option, Some, None, List, length}
use Rattle.ir_ast.specs.Plain.{Ty, Tys, integer, structure, packed, no_types, type_and, Inis}
use Rattle.ir_type.specs.Whole.{Types, is_same}
use Rattle.ir_typing.specs.Fits.{elements_fit}

abbrev pub is_plain_struct : Ty → Bool
is_plain_struct (structure ts) = true
is_plain_struct _ = false

abbrev pub is_packed_struct : Ty → Bool
is_packed_struct (packed ts) = true
is_packed_struct _ = false

-- the fields of a struct, packed or not
abbrev pub fields_in : Ty → Tys
fields_in (structure ts) = ts
fields_in (packed ts) = ts
fields_in _ = no_types

-- fields without the first ones
abbrev pub behind : ℕ → Tys → Tys
behind zero ts = ts
behind (suc k) no_types = no_types
behind (suc k) (type_and t ts) = behind k ts

-- the bytes of an array of this length and element
abbrev pub bytes_by : Option (ℕ × Ty) → List ℕ → Bool
bytes_by None bs = false
bytes_by (Some p) bs = is_same p.1 (integer 8) && (p.0 == length bs)

-- the elements of an array of this length and element
abbrev pub array_fits : Types → Option (ℕ × Ty) → Inis → Bool
array_fits types None is = false
array_fits types (Some p) is = elements_fit types p.0 p.1 is
