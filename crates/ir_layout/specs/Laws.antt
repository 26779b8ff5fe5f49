-- The types of the fields of a struct.
use Rattle.std.specs.Prelude.{ℕ, zero, suc}
use Rattle.ir_ast.specs.Plain.{Ty, Tys, opaque, no_types, type_and}

abbrev pub field_type : Tys → ℕ → Ty
field_type no_types k = opaque
field_type (type_and t ts) zero = t
field_type (type_and t ts) (suc k) = field_type ts k
