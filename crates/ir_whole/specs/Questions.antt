-- Parts of whole types.
use Rattle.std.specs.Prelude.{ℕ, zero, suc, Option, Some, None}
use Rattle.ir_ast.specs.Plain.{Ty, Tys, integer, array, structure, packed, no_types, type_and}

-- the width of an integer, in bits
abbrev pub width_of : Ty → Option ℕ
width_of (integer w) = Some w
width_of _ = None

-- the length and the element of an array
abbrev pub element_of : Ty → Option (ℕ × Ty)
element_of (array n t) = Some (n, t)
element_of _ = None

abbrev pub count_in : Tys → ℕ
count_in no_types = 0
count_in (type_and t ts) = suc (count_in ts)

-- how many fields a struct has
abbrev pub count_of : Ty → Option ℕ
count_of (structure ts) = Some (count_in ts)
count_of (packed ts) = Some (count_in ts)
count_of _ = None

abbrev pub field_in : ℕ → Tys → Option Ty
field_in k no_types = None
field_in zero (type_and t ts) = Some t
field_in (suc k) (type_and t ts) = field_in k ts

-- field k of a struct, counted from 0
abbrev pub field_of : ℕ → Ty → Option Ty
field_of k (structure ts) = field_in k ts
field_of k (packed ts) = field_in k ts
field_of k _ = None
