-- What a specification may name of a module: each global by its name, with the bytes and the shape of its type, and each function by its
-- name, with its parameters, its result and its calls, in text order. The place of a global is the number of its object.
use Rattle.std.specs.Prelude.{ℕ, ◌+◌, ◌/◌, Option, Some, None, is_some, List, map, if◌then◌else◌}
use Rattle.ir_ast.specs.Plain.{Ty, Tys, nothing, integer, array, structure, packed, no_types, type_and}
use Rattle.ir_ast.specs.Program.{FunctionView, GlobalView, ModuleView}
use Rattle.ir_type.specs.Whole.{Types, meant, is_memory_width}
use Rattle.ir_layout.specs.Sizes.{up_to, size_of, align_of, object_size}
use Rattle.ir_check.specs.Graphs.{called_by}
use Rattle.spec_names.specs.Kernel.{Shape, word, row, fields, Parts, no_parts, part_and, Global, ValueType, number, address, Function, Kernel}

-- ---- shapes

abbrev mutual
  -- the shape of a whole type: an integer of a width that memory has, an array with its elements' size as the stride, a struct; anything
  -- else has no leaf
  pub shape_of : Ty → Shape
  shape_of (integer w) = if is_memory_width w then word (w / 8) else fields no_parts
  shape_of (array n t) = row n (size_of t) (shape_of t)
  shape_of (structure ts) = fields (parts_from 0 ts)
  shape_of (packed ts) = fields (packed_parts_from 0 ts)
  shape_of _ = fields no_parts

  -- fields that begin behind so many bytes: each stands at the next multiple of its alignment
  pub parts_from : ℕ → Tys → Parts
  parts_from at no_types = no_parts
  parts_from at (type_and t ts) = part_and (up_to (align_of t) at) (shape_of t) (parts_from (up_to (align_of t) at + size_of t) ts)

  -- the same without gaps
  pub packed_parts_from : ℕ → Tys → Parts
  packed_parts_from at no_types = no_parts
  packed_parts_from at (type_and t ts) = part_and at (shape_of t) (packed_parts_from (at + size_of t) ts)

abbrev pub global_of : Types → List ℕ × GlobalView → Global
global_of types e = record { name = e.0; size = object_size types e.1; shape = shape_of (meant types e.1.over) }

-- ---- functions

-- an integer of a width, or a pointer: a function with a body takes and gives nothing else
abbrev pub value_type : Ty → ValueType
value_type (integer w) = number w
value_type _ = address

-- none for void; of a declared function any other result that is no integer counts as a pointer
abbrev pub result_type : Ty → Option ValueType
result_type nothing = None
result_type t = Some (value_type t)

abbrev pub function_of : Types → List ℕ × FunctionView → Function
function_of types e = record {
  name = e.0;
  parameters = map (λ p. value_type (meant types p.0)) e.1.parameters;
  result = result_type (meant types e.1.result);
  defined = is_some e.1.body;
  calls = called_by e.1;
}

-- ---- modules

abbrev pub kernel_of : ModuleView → Kernel
kernel_of m = record { globals = map (global_of m.types) m.globals; functions = map (function_of m.types) m.functions }
