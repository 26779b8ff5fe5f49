-- Instructions of a checked kernel, where their operands are ready: what they give fits their register.
use Rattle.std.specs.Prelude.{◌≡◌, ◌<◌, ℕ, Bool, true, false, Option, Some, None, List, map, slice_index, Contains}
use Rattle.ir_layout.specs.Bytes.{object_of}
use Rattle.ir_ast.specs.Plain.{Ty, integer, Val}
use Rattle.ir_ast.specs.Program.{Act, binary, compare, select, convert, freeze, slot, offset, InstrView, FunctionView, ModuleView}
use Rattle.ir_type.specs.Rows.{operands, values}
use Rattle.ir_type.specs.Shape.{keeps_notes}
use Rattle.ir_type.specs.Whole.{Types, meant}
use Rattle.ir_typing.specs.Fits.{scope_of, whole_kind, instr_fits}
use Rattle.ir_typing.specs.Known.{is_known}
use Rattle.ir_check.specs.Rules.{IsPointerAccess}
use Rattle.ir_typing.specs.Registers.{Kind, slot_of}
use Rattle.ir_value.specs.Numbers.{is_width}
use Rattle.ir_machine.specs.declared.state.Held.TheVariants as held
use Rattle.ir_machine.specs.declared.state.Computed.{Computed}
use Rattle.ir_machine.specs.declared.state.Computed.TheVariants.{Sets, Passes, Sticks, Lost}
use Rattle.ir_machine.specs.declared.state.Written.{Written}
use Rattle.ir_machine.specs.declared.state.Written.TheVariants as written
use Rattle.ir_machine.specs.declared.state.Target.{Target}
use Rattle.ir_machine.specs.declared.state.Target.TheVariants as target
use Rattle.ir_machine.specs.Values.{Registers}
use Rattle.ir_kernel.specs.Typed.{is_of, is_held, IsReady}

-- what an instruction gives is what a register of the kind holds, or the run is stuck
abbrev pub ComputesOf : Types → Option Kind → Computed → Type 0
ComputesOf types (Some kind) (Sets h) = is_held (whole_kind types kind) h ≡ true
ComputesOf types None (Sets h) = ⊥
ComputesOf types kind Passes = Unit
ComputesOf types kind (Sticks r) = Unit
ComputesOf types kind Lost = ⊥

-- neither a jump nor a call, and no load, store or part of a pair
abbrev pub is_computation : Act → Bool
is_computation (binary kind flags w a b) = true
is_computation (compare samesign predicate over a b) = true
is_computation (select condition over a b) = true
is_computation (convert kind flags from to a) = true
is_computation (freeze over a) = true
is_computation (slot over align) = true
is_computation (offset a) = true
is_computation _ = false

-- the instruction keeps its notes, its operands fit, what they use is set, and integers have widths from 1 to 64
pub record IsPrepared (m : ModuleView) (f : FunctionView) (rs : Registers) (before : List InstrView) (i : InstrView) : Type 0 where
  pub noted : keeps_notes i.act ≡ true
  pub fitting : instr_fits m f before i ≡ true
  pub ready : (v : Val) → Contains (values i.act) v → IsReady m f rs v
  pub widths : (t : Ty) (w : ℕ) → Contains (map (λ p. p.0) (operands i.act)) t → meant m.types t ≡ integer w → is_width w ≡ true

-- a block is found, or the run is stuck
abbrev pub IsFound : Target → Type 0
IsFound (target.To to) = Unit
IsFound (target.Sticks r) = Unit
IsFound target.Lost = ⊥

-- arguments pass, or the run is stuck
abbrev pub DoPass : Computed → Type 0
DoPass Passes = Unit
DoPass (Sticks r) = Unit
DoPass _ = ⊥

-- each byte of the memory is one
abbrev pub AreBytes : List (List ℕ) → Type 0
AreBytes memory = (o k : ℕ) → slice_index (object_of memory o) k < 256

-- a number is written, or the run is stuck
abbrev pub IsWritten : Written → Type 0
IsWritten (written.Puts o x n) = Unit
IsWritten (written.Sticks r) = Unit
IsWritten written.Lost = ⊥

-- a value of the type is given, or the run is stuck
abbrev pub GivesOf : Ty → Computed → Type 0
GivesOf t (Sets (held.Value v)) = is_of t v ≡ true
GivesOf t (Sets h) = ⊥
GivesOf t Passes = Unit
GivesOf t (Sticks r) = Unit
GivesOf t Lost = ⊥

-- a slot of the type is given, with what was stored, or the run is stuck
abbrev pub HoldsSlot : Ty → Computed → Type 0
HoldsSlot over (Sets h) = is_held (slot_of over) h ≡ true
HoldsSlot over (Sticks r) = Unit
HoldsSlot over _ = ⊥

-- the instruction keeps its notes, its names are known, its operands fit, and it reads and writes no pointer outside slots
pub record IsFit (m : ModuleView) (f : FunctionView) (before : List InstrView) (i : InstrView) : Type 0 where
  pub noted : keeps_notes i.act ≡ true
  pub known : is_known m f i.act ≡ true
  pub fitting : instr_fits m f before i ≡ true
  pub inside : IsPointerAccess (scope_of m f) i.act → ⊥
