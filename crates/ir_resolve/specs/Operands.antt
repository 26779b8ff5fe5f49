-- Operands with places for names: what each begins with, and what is added to it.
use Rattle.std.specs.Prelude.{ℕ, ◌==◌, ℤ, Bool, if◌then◌else◌, min, Option, Some, None, option_map, option_and_then, unwrap_or, List, [], ◌∷◌, ◌++◌, position, bytes_eq}
use Rattle.ir_ast.specs.Plain.{Ty, Val, Form, Indices, local, global, number, null, poison, address, form, no_indices, index_and}
use Rattle.ir_ast.specs.Program.{FunctionView, ModuleView}
use Rattle.ir_ast.specs.Table.{names_of}
use Rattle.ir_type.specs.Whole.{meant}
use Rattle.ir_layout.specs.Sizes.{size_of}
use Rattle.ir_layout.specs.Facts.{cut}
use Rattle.ir_whole.specs.Questions as parts
use Rattle.ir_whole.specs.Questions.{width_of, field_of}
use Rattle.ir_measure.specs.Measures.{offset_at}
use Rattle.ir_typing.specs.Places.{register_names}
use Rattle.ir_typing.specs.Fits.{modulo}
use Rattle.ir_value.specs.declared.value.Value.TheVariants.{Number, Null, Address, Poison}
use Rattle.ir_ast.specs.declared.operand.Flags.{Flags}
use Rattle.ir_code.specs.declared.input.Base.{Base}
use Rattle.ir_code.specs.declared.input.Base.TheVariants.{Register, Constant, Unknown}
use Rattle.ir_code.specs.declared.input.Move.{Move}
use Rattle.ir_code.specs.declared.input.Move.TheVariants.{Begin, By}
use Rattle.ir_code.specs.declared.input.Input.{Input}

-- the number of a width that a whole number stands for; no text has a wider one than 64 bits
abbrev pub number_in : ℕ → ℤ → ℕ
number_in w n = modulo (min w 64) n

-- ---- what an operand begins with

abbrev pub register_base : Option ℕ → Base
register_base None = Unknown
register_base (Some k) = Register k

-- the beginning of an object
abbrev pub object_base : Option ℕ → Base
object_base None = Unknown
object_base (Some o) = Constant (Address o 0)

abbrev pub number_base : Option ℕ → ℤ → Base
number_base (Some w) n = Constant (Number (number_in w n))
number_base None n = Unknown

-- an operand that is no `getelementptr`, of an integer type of this width, or of another type
abbrev pub base_of : ModuleView → FunctionView → Option ℕ → Val → Base
base_of m f w (local x) = register_base (position (bytes_eq x) (register_names f))
base_of m f w (global x) = object_base (position (bytes_eq x) (names_of m.globals))
base_of m f w (number n) = number_base w n
base_of m f w null = Constant Null
base_of m f w poison = Constant Poison
base_of m f w (address a) = Unknown

-- ---- what is added to it

-- an index over values of a size
abbrev pub index_move : ModuleView → FunctionView → Flags → ℕ → Option ℕ → Val → Move
index_move m f flags each w v = By flags.inbounds flags.nuw (unwrap_or w 0) each (base_of m f w v)

-- a step to no part of the type
abbrev pub lost_move : Flags → Move
lost_move flags = By flags.inbounds flags.nuw 64 0 Unknown

-- a field of a struct: one step over the bytes before it
abbrev pub field_move : Flags → Option ℕ → Move
field_move flags None = lost_move flags
field_move flags (Some bytes) = By flags.inbounds flags.nuw 64 bytes (Constant (Number 1))

-- the field that an index chooses: a constant i32
abbrev pub field_index : Option ℕ → Val → Option ℕ
field_index (Some w) (number n) = if w == 32 then Some (modulo 32 n) else None
field_index _ _ = None

-- the element of an array
abbrev pub element_of : Ty → Option Ty
element_of t = option_map (λ p. p.1) (parts.element_of t)

-- the step to a part of a type: over values of its element where it is an array, else to a field
abbrev pub part_move : ModuleView → FunctionView → Flags → Ty → Option Ty → Option ℕ → Val → Move
part_move m f flags t (Some element) w v = index_move m f flags (cut (size_of element)) w v
part_move m f flags t None w v = field_move flags (option_and_then (offset_at t) (field_index w v))

-- the part of a type that an index steps to
abbrev pub part_of : Ty → Option Ty → Option ℕ → Val → Option Ty
part_of t (Some element) w v = Some element
part_of t None w v = option_and_then (λ k. field_of k t) (field_index w v)

-- the same from a type on, where the steps before it led to one
abbrev pub move_from : ModuleView → FunctionView → Flags → Option Ty → Option ℕ → Val → Move
move_from m f flags None w v = lost_move flags
move_from m f flags (Some t) w v = part_move m f flags t (element_of t) w v

abbrev pub part_from : Option Ty → Option ℕ → Val → Option Ty
part_from None w v = None
part_from (Some t) w v = part_of t (element_of t) w v

-- the width of an index; names of types are seen through
abbrev pub width_in : ModuleView → Ty → Option ℕ
width_in m over = width_of (meant m.types over)

-- the steps of these indices, from a type on
abbrev pub part_moves : ModuleView → FunctionView → Flags → Option Ty → Indices → List Move
part_moves m f flags t no_indices = []
part_moves m f flags t (index_and over v is) =
    move_from m f flags t (width_in m over) v ∷ part_moves m f flags (part_from t (width_in m over) v) is

-- the first index steps over whole values of the type
abbrev pub moves_of : ModuleView → FunctionView → Flags → Ty → Indices → List Move
moves_of m f flags t no_indices = Begin flags.inbounds ∷ []
moves_of m f flags t (index_and over v is) =
    Begin flags.inbounds ∷ index_move m f flags (cut (size_of t)) (width_in m over) v ∷ part_moves m f flags (Some t) is

abbrev pub plain_input : Base → Input
plain_input b = record { base = b; moves = [] }

abbrev pub moved_input : Input → List Move → Input
moved_input i moves = record { base = i.base; moves = i.moves ++ moves }

-- the operand of an integer type of this width, or of another type
abbrev mutual
  pub input_of : ModuleView → FunctionView → Option ℕ → Val → Input
  input_of m f w (address a) = form_input m f a
  input_of m f w v = plain_input (base_of m f w v)

  -- `getelementptr`: what its base begins with, and its steps behind those of its base
  pub form_input : ModuleView → FunctionView → Form → Input
  form_input m f (form flags over base indices) =
      moved_input (input_of m f None base) (moves_of m f flags (meant m.types over) indices)
