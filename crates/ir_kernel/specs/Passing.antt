-- Which numbers can be passed to a function of a kernel.
use Rattle.std.specs.Prelude.{◌≡◌, ℕ, ◌+◌, ◌==◌, ◌&&◌, Bool, true, false, if◌then◌else◌, Option, Some, None, is_some, List, ◌∷◌, length}
use Rattle.ir_ast.specs.Plain.{Ty, integer}
use Rattle.ir_ast.specs.Program.{FunctionView, ModuleView}
use Rattle.ir_type.specs.Names.{entry_of}
use Rattle.ir_type.specs.Whole.{Types, meant, is_pointer}
use Rattle.ir_check.specs.Answers.{find_body}
use Rattle.ir_value.specs.Numbers.{is_width, is_number}
use Rattle.ir_kernel.specs.declared.passing.Misfit.{Misfit}
use Rattle.ir_kernel.specs.declared.passing.Misfit.TheVariants.{Unknown, Count, Argument, Pointer}
use Rattle.ir_kernel.specs.declared.passing.Passed.{Passed}
use Rattle.ir_kernel.specs.declared.passing.Passed.TheVariants.{To, Not}
use Rattle.ir_kernel.specs.Runs.{CanCall}

-- the number is one of the integer type; a pointer takes none
abbrev pub takes_number : Ty → ℕ → Bool
takes_number (integer w) n = is_width w && is_number w n
takes_number _ n = false

-- the place, counted from k, of the first number that its parameter does not take
abbrev pub first_untaken : Types → ℕ → List (Ty × List ℕ) → List ℕ → Option ℕ
first_untaken types k (p ∷ ps) (n ∷ ns) = if takes_number (meant types p.0) n then first_untaken types (k + 1) ps ns else Some k
first_untaken types k _ _ = None

abbrev pub result_misfit : Bool → Option Misfit
result_misfit true = Some Pointer
result_misfit false = None

-- a parameter is tried before the result
abbrev pub type_misfit : Option ℕ → Ty → Option Misfit
type_misfit (Some k) result = Some (Argument k)
type_misfit None result = result_misfit (is_pointer result)

abbrev pub function_misfit : Types → FunctionView → List ℕ → Option Misfit
function_misfit types f arguments =
    if length arguments == length f.parameters then type_misfit (first_untaken types 0 f.parameters arguments) (meant types f.result) else Some Count

abbrev pub entry_misfit : Types → Option FunctionView → List ℕ → Option Misfit
entry_misfit types None arguments = Some Unknown
entry_misfit types (Some f) arguments = if is_some f.body then function_misfit types f arguments else Some Unknown

-- why the numbers cannot be passed to the function of a name; none where they can
abbrev pub misfit : ModuleView → List ℕ → List ℕ → Option Misfit
misfit m name arguments = entry_misfit m.types (entry_of name m.functions) arguments

-- the function of the name stands at this place, and can be called with the numbers
pub record IsPassed (m : ModuleView) (name arguments : List ℕ) (function : ℕ) : Type 0 where
  pub found : find_body m.functions name ≡ Some function
  pub can : CanCall m function arguments

abbrev pub Passes : ModuleView → List ℕ → List ℕ → Passed → Type 0
Passes m name arguments (To function) = (misfit m name arguments ≡ None) × IsPassed m name arguments function
Passes m name arguments (Not why) = misfit m name arguments ≡ Some why

abbrev pub passed_to : ℕ → Option Misfit → Passed
passed_to function None = To function
passed_to function (Some why) = Not why
