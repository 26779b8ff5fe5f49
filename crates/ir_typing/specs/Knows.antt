-- Which names an operand may spell, part by part, as the code goes over it.
use Rattle.std.specs.Prelude.{Bool, true, ◌&&◌, is_some}
use Rattle.ir_ast.specs.Plain.{Val, Form, Indices, local, global, address, form, no_indices, index_and}
use Rattle.ir_ast.specs.Program.{FunctionView, ModuleView}
use Rattle.ir_type.specs.Names.{entry_of}
use Rattle.ir_typing.specs.Registers.{registers_of}

abbrev mutual
  pub knows : ModuleView → FunctionView → Val → Bool
  knows m f (local x) = is_some (entry_of x (registers_of f))
  knows m f (global x) = is_some (entry_of x m.globals)
  knows m f (address a) = knows_form m f a
  knows m f _ = true

  pub knows_form : ModuleView → FunctionView → Form → Bool
  knows_form m f (form flags over base indices) = knows m f base && knows_indices m f indices

  pub knows_indices : ModuleView → FunctionView → Indices → Bool
  knows_indices m f no_indices = true
  knows_indices m f (index_and t v is) = knows m f v && knows_indices m f is
