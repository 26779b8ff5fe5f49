-- What the code keeps of types.
use Rattle.std.specs.Prelude.{◌≡◌, ℕ, length}
use Rattle.ir_ast.specs.Plain.{Ty, opaque}
use Rattle.ir_type.specs.Whole.{Types}
use Rattle.ir_whole.specs.Heads.{type_at}
use Rattle.ir_whole.specs.Numbers.{types_of, IsFor}
use Rattle.ir_measure.specs.declared.shapes.Shapes.{Shapes}
use Rattle.ir_measure.specs.Measures.{AreMeasured}

-- the whole type with a number, and how many are kept
abbrev pub type_in : Shapes → ℕ → Ty
type_in s n = type_at (types_of s.numbers) n

abbrev pub count_of : Shapes → ℕ
count_of s = length s.measures.items

-- what is kept is right, whatever names stand for
pub record IsSound (s : Shapes) : Type 0 where
  pub first : type_in s 0 ≡ opaque
  pub measured : AreMeasured (types_of s.numbers) s.measures.items

-- what is kept is of the types of a table
pub record IsShaped (types : Types) (s : Shapes) : Type 0 where
  pub own : IsFor types s.numbers
  pub sound : IsSound s
