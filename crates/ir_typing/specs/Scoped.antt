-- What a scope of the code says of its function.
use Rattle.std.specs.Prelude.{◌≡◌, ℕ, ◌<◌, ◌^◌, Option, Some, None, List, map, length, slice_get, position, bytes_eq}
use Rattle.ir_ast.specs.Program.{FunctionView}
use Rattle.ir_ast.specs.ProgramView.{view_function, view_entries, view_type_entry}
use Rattle.ir_type.specs.Whole.{Types}
use Rattle.ir_whole.specs.declared.numbers.TypeNumbers.{TypeNumbers}
use Rattle.ir_whole.specs.Numbers.{types_of, IsFor}
use Rattle.ir_typing.specs.declared.held.Held.{Held}
use Rattle.ir_typing.specs.declared.scope.Scope.{Scope}
use Rattle.ir_typing.specs.Registers.{registers_of}
use Rattle.ir_typing.specs.Fits as definition
use Rattle.ir_typing.specs.Fits.{scope_by, whole_kind}
use Rattle.ir_typing.specs.Places.{register_names}
use Rattle.ir_typing.specs.Kinds.{kind_at}

-- the function that the scope is of, and the named types that its types spell
abbrev pub function_in : Scope → FunctionView
function_in s = view_function s.function.now

abbrev pub types_in : Scope → Types
types_in s = view_entries view_type_entry s.types.now

-- the same as plain data
abbrev pub scope_in : Scope → definition.Scope
scope_in s = scope_by (types_in s) (function_in s)

-- the numbers are for these types, and those that the scope keeps are of its registers' whole types
pub record IsTyped (numbers : TypeNumbers) (s : Scope) : Type 0 where
  pub small : length s.types.now < 2 ^ 32
  pub own : IsFor (types_in s) numbers
  pub kinds : map (kind_at (types_of numbers)) s.kinds.items ≡ map (λ r. Some (whole_kind (types_in s) r.1)) (registers_of (function_in s))

-- what is kept of a register
abbrev pub held_at : List Held → Option ℕ → Option Held
held_at kinds None = None
held_at kinds (Some place) = slice_get kinds place

abbrev pub held_in : Scope → List ℕ → Option Held
held_in s x = held_at s.kinds.items (position (bytes_eq x) (register_names (function_in s)))
