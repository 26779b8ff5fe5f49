-- When a module is refused, and which functions are found.
use Rattle.std.specs.Prelude.{◌≡◌, ℕ, Option, None, Result, Ok, Err, is_some, option_and_then, if◌then◌else◌, List}
use Rattle.ir_ast.specs.Program.{FunctionView, ModuleView}
use Rattle.ir_ast.specs.Table.{place_of}
use Rattle.ir_ast.specs.declared.fault.KernelFault.{KernelFault}
use Rattle.ir_ast.specs.declared.fault.KernelStop.{KernelStop}
use Rattle.ir_ast.specs.declared.fault.KernelStop.TheVariants.{Refused, Memory}
use Rattle.ir_type.specs.Names.{entry_of}
use Rattle.ir_type.specs.Items.{Rule}
use Rattle.ir_check.specs.Rules.{IsCheckFault}
use Rattle.ir_check.specs.Least.{reason_of}

-- the fault is that of the first item that falls under a check
abbrev pub IsRefusal : ModuleView → KernelFault → Type 0
IsRefusal m fault = (rule : Rule) × (fault.reason ≡ reason_of rule) × IsCheckFault m fault.line rule

-- the fact of the fault, where the answer is a refusal; want of memory says nothing
abbrev pub OnStop : (KernelFault → Type 0) → KernelStop → Type 0
OnStop P (Refused fault) = P fault
OnStop P Memory = Unit

abbrev pub OnRefusal : {T : Type 0} → Result T KernelStop → (KernelFault → Type 0) → Type 0
OnRefusal (Ok value) P = Unit
OnRefusal (Err stop) P = OnStop P stop

-- the place of the function of this name, where it has a body
abbrev pub find_body : List (List ℕ × FunctionView) → List ℕ → Option ℕ
find_body functions x = if is_some (option_and_then (λ (f : FunctionView). f.body) (entry_of x functions)) then place_of x functions else None
