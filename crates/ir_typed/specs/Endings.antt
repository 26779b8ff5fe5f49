-- What a function is called with, and how its runs may end.
use Rattle.std.specs.Prelude.{◌≡◌, ◌≢◌, ◌^◌, ◌<◌, ℕ, true, Some, None, is_some, bytes_eq, List, [], ◌∷◌, map, slice_get}
use Rattle.std.specs.List.{IsDistinct}
use Rattle.ir_ast.specs.Plain.{Ty, nothing, integer}
use Rattle.ir_ast.specs.Program.{FunctionView, ModuleView}
use Rattle.ir_ast.specs.Table.{names_of}
use Rattle.ir_type.specs.Whole.{Types, meant, is_void}
use Rattle.ir_check.specs.Checked.{IsChecked}
use Rattle.ir_value.specs.declared.value.Value.TheVariants.{Poison}
use Rattle.ir_machine.specs.declared.state.End.{End}
use Rattle.ir_machine.specs.declared.state.End.TheVariants.{Returned, Stuck, Lost, Unfinished}
use Rattle.ir_kernel.specs.declared.ends.RunEnd.{RunEnd}
use Rattle.ir_kernel.specs.declared.ends.RunEnd.TheVariants as end
use Rattle.ir_kernel.specs.Typed.{is_of}
use Rattle.ir_kernel.specs.Steps.{AreBytes}
use Rattle.ir_typed.specs.Spelled.{AreSpelled}

-- ---- what runs stand on

-- a number of a whole type, which is an integer
abbrev pub IsNumberOf : Ty → ℕ → Type 0
IsNumberOf (integer w) n = n < 2 ^ w
IsNumberOf _ n = ⊥

-- as many numbers as there are types, one of each
abbrev pub AreNumbersOf : Types → List Ty → List ℕ → Type 0
AreNumbersOf types [] [] = Unit
AreNumbersOf types (t ∷ ts) (n ∷ ns) = IsNumberOf (meant types t) n × AreNumbersOf types ts ns
AreNumbersOf types _ _ = ⊥

-- a checked module, in which no two functions have one name
pub record IsRunnable (m : ModuleView) : Type 0 where
  pub checked : IsChecked m
  pub distinct : IsDistinct bytes_eq (names_of m.functions)
  pub spelled : AreSpelled m

-- the function at the place has a body, the numbers are of its parameters, and the memory is one of bytes
pub record IsFitCall (m : ModuleView) (function : ℕ) (arguments : List ℕ) (memory : List (List ℕ)) (called : FunctionView) : Type 0 where
  pub name : List ℕ
  pub there : slice_get m.functions function ≡ Some (name, called)
  pub body : is_some called.body ≡ true
  pub numbers : AreNumbersOf m.types (map (λ p. p.0) called.parameters) arguments
  pub bytes : AreBytes memory

-- ---- how runs end

-- a run of a function with a result of a whole type ends so: it returns a value of the type that is no poison, or nothing where there is
-- no result, and a memory of bytes; or it is stuck, or was not watched to its end. It is not lost.
abbrev pub IsEndOf : Ty → End → Type 0
IsEndOf t (Returned None after) = (is_void t ≡ true) × AreBytes after
IsEndOf t (Returned (Some v) after) = (is_of t v ≡ true) × (v ≢ Poison) × AreBytes after
IsEndOf t (Stuck reason line) = Unit
IsEndOf t Lost = ⊥
IsEndOf t Unfinished = Unit

-- the same as a caller sees it, of a function that is watched to its end and gives a number or nothing
abbrev pub IsSeenOf : Ty → RunEnd → Type 0
IsSeenOf (integer w) (end.Returned (Some n) after) = (n < 2 ^ w) × AreBytes after
IsSeenOf nothing (end.Returned None after) = AreBytes after
IsSeenOf t (end.Stuck reason line) = Unit
IsSeenOf t _ = ⊥
