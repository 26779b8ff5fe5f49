-- Values of types, and what instructions make of them.
use Rattle.std.specs.Prelude.{◌≡◌, ℕ, Bool, true, false, ◌&&◌, Option, Some, None, is_some, List, Contains, position, bytes_eq}
use Rattle.ir_ast.specs.Plain.{Ty, integer, pointer, structure, type_and, no_types, Val}
use Rattle.ir_ast.specs.Program.{FunctionView, ModuleView}
use Rattle.ir_type.specs.Names.{entry_of, locals_in, globals_in}
use Rattle.ir_typing.specs.Fits.{scope_of}
use Rattle.ir_typing.specs.Places.{register_names}
use Rattle.ir_typing.specs.Registers.{Kind, value_of, slot_of, pair_of}
use Rattle.ir_value.specs.declared.value.Value.{Value}
use Rattle.ir_value.specs.declared.value.Made.{Made}
use Rattle.ir_value.specs.declared.value.Made.TheVariants.{Gives, Sticks, Lost}
use Rattle.ir_value.specs.Numbers.{takes}
use Rattle.ir_value.specs.Pointers.{is_pointer}
use Rattle.ir_machine.specs.declared.state.Held.{Held}
use Rattle.ir_machine.specs.declared.state.Held.TheVariants as held
use Rattle.ir_machine.specs.Values.{Registers, held_at}

-- a value of a whole type: a number of the width, or poison; null, an address, or poison
abbrev pub is_of : Ty → Value → Bool
is_of (integer w) v = takes w v
is_of pointer v = is_pointer v
is_of _ v = false

-- a value of the type is made, or the run is stuck
abbrev pub MakesOf : Ty → Made → Type 0
MakesOf t (Gives v) = is_of t v ≡ true
MakesOf t (Sticks r) = Unit
MakesOf t Lost = ⊥

-- there is a value, and it is one of the type
abbrev pub IsValueOf : Ty → Option Value → Type 0
IsValueOf t (Some v) = is_of t v ≡ true
IsValueOf t None = ⊥

-- ---- registers

abbrev pub is_stored : Ty → Option Value → Bool
is_stored t None = true
is_stored t (Some v) = is_of t v

abbrev pub are_parts : Ty → Value → Value → Bool
are_parts (structure (type_and t (type_and u no_types))) a b = is_of t a && is_of u b
are_parts _ a b = false

-- what a register of a kind holds: a value of its type, the two parts of a pair, or a slot with what was stored
abbrev pub is_held : Kind → Held → Bool
is_held (value_of t) (held.Value v) = is_of t v
is_held (slot_of t) (held.Slot align stored) = is_stored t stored
is_held (pair_of t) (held.Pair a b) = are_parts t a b
is_held _ _ = false

-- the register is set, and holds what its kind asks
abbrev pub IsSetTo : Kind → Option Held → Type 0
IsSetTo kind (Some h) = is_held kind h ≡ true
IsSetTo kind None = ⊥

-- ---- operands in a frame of a function

-- the register of a name, where the function has one, holds what its kind asks
abbrev pub Holds : ModuleView → FunctionView → Registers → List ℕ → Type 0
Holds m f rs x = (k : ℕ) (kind : Kind) → position (bytes_eq x) (register_names f) ≡ Some k → entry_of x (scope_of m f).registers ≡ Some kind → IsSetTo kind (held_at rs k)

-- the registers that an operand uses are set, and the globals that it names are known
pub record IsReady (m : ModuleView) (f : FunctionView) (rs : Registers) (v : Val) : Type 0 where
  pub set : (x : List ℕ) → Contains (locals_in v) x → Holds m f rs x
  pub known : (x : List ℕ) → Contains (globals_in v) x → is_some (entry_of x m.globals) ≡ true
