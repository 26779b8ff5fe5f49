-- What the code keeps of a kernel, and the plain view that it stands for.
use Rattle.std.specs.Prelude.{ℕ, ◌<◌, ◌^◌, Bool, Option, Some, None, option_map, List, map, length}
use Rattle.std.specs.List.{All}
use Rattle.ir_measure.specs.declared.shapes.Shapes.{Shapes}
use Rattle.ir_measure.specs.Shaped.{type_in, count_of, IsSound}
use Rattle.spec_names.specs.Kernel.{Name, Shape, number, address, Kernel}
use Rattle.spec_names.specs.Kernel as plain
use Rattle.spec_kernel.specs.declared.rows.ValueType.{ValueType}
use Rattle.spec_kernel.specs.declared.rows.ValueType.TheVariants.{Int, Ptr}
use Rattle.spec_kernel.specs.declared.rows.GlobalRow.{GlobalRow}
use Rattle.spec_kernel.specs.declared.rows.FunctionRow.{FunctionRow}
use Rattle.spec_kernel.specs.View.{shape_of}
use Rattle.spec_kernel.specs.Bounded.{IsBounded}
use Rattle.spec_kernel.specs.Firsts.{texts, AreFirsts}

-- ---- rows without references

pub record SeenGlobal : Type 0 where
  pub name : Name
  pub size : ℕ
  pub shape : ℕ

pub record SeenFunction : Type 0 where
  pub name : Name
  pub parameters : List ValueType
  pub result : Option ValueType
  pub defined : Bool
  pub calls : List Name

abbrev pub see_global : GlobalRow → SeenGlobal
see_global g = record { name = g.name.now; size = g.size; shape = g.shape }

abbrev pub see_function : FunctionRow → SeenFunction
see_function f = record { name = f.name.now; parameters = f.parameters.items; result = f.result; defined = f.defined; calls = texts f.calls.items }

-- all that is kept: types by number with their sizes, and the rows
pub record Seen : Type 0 where
  pub shapes : Shapes
  pub globals : List SeenGlobal
  pub functions : List SeenFunction

abbrev pub seen_of : Shapes → List GlobalRow → List FunctionRow → Seen
seen_of shapes globals functions = record { shapes = shapes; globals = map see_global globals; functions = map see_function functions }

-- ---- the plain view

abbrev pub view_value : ValueType → plain.ValueType
view_value (Int w) = number w
view_value Ptr = address

-- an integer of this width, or a pointer
abbrev pub by_width : Option ℕ → plain.ValueType
by_width (Some w) = number w
by_width None = address

-- the shape of the type with a number
abbrev pub shape_at : Shapes → ℕ → Shape
shape_at shapes n = shape_of (type_in shapes n)

abbrev pub global_in : Shapes → SeenGlobal → plain.Global
global_in shapes g = record { name = g.name; size = g.size; shape = shape_at shapes g.shape }

abbrev pub function_in : SeenFunction → plain.Function
function_in f = record { name = f.name; parameters = map view_value f.parameters; result = option_map view_value f.result; defined = f.defined; calls = f.calls }

abbrev pub kernel_in : Seen → Kernel
kernel_in k = record { globals = map (global_in k.shapes) k.globals; functions = map function_in k.functions }

-- ---- shapes by number

abbrev pub shape_in : Seen → ℕ → Shape
shape_in k n = shape_at k.shapes n

-- the number is that of a type that a global has, or of a part of one
abbrev pub IsShape : Shapes → ℕ → Type 0
IsShape shapes n = (n < count_of shapes) × IsBounded (type_in shapes n)

abbrev pub IsKnown : Seen → ℕ → Type 0
IsKnown k n = IsShape k.shapes n

-- what is kept is right: names stand with their first places, and the types of globals are known
pub record IsKept (k : Seen) (globals functions : List (Name × ℕ)) : Type 0 where
  pub sound : IsSound k.shapes
  pub known : All (λ g. IsKnown k g.shape) k.globals
  pub few_globals : length k.globals < 2 ^ 32
  pub few_functions : length k.functions < 2 ^ 32
  pub global_names : AreFirsts globals (map (λ g. g.name) k.globals)
  pub function_names : AreFirsts functions (map (λ f. f.name) k.functions)
