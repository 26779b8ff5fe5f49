-- When a module is refused.
use Rattle.std.specs.Prelude.{◌≡◌, Result, Ok, Err}
use Rattle.ir_ast.specs.Program.{ModuleView}
use Rattle.ir_ast.specs.declared.fault.KernelFault.{KernelFault}
use Rattle.ir_ast.specs.declared.fault.KernelStop.{KernelStop}
use Rattle.ir_ast.specs.declared.fault.KernelStop.TheVariants.{Refused, Memory}
use Rattle.ir_type.specs.Items.{Rule}
use Rattle.ir_layout.specs.Rules.{IsLayoutFault}
use Rattle.ir_layout.specs.Least.{reason_of}

-- the fault is that of the first item that falls under a rule of layout
abbrev pub IsRefusal : ModuleView → KernelFault → Type 0
IsRefusal m fault = (rule : Rule) × (fault.reason ≡ reason_of rule) × IsLayoutFault m fault.line rule

-- the fact of the fault, where the answer is a refusal; want of memory says nothing
abbrev pub OnStop : (KernelFault → Type 0) → KernelStop → Type 0
OnStop P (Refused fault) = P fault
OnStop P Memory = Unit

abbrev pub OnRefusal : {T : Type 0} → Result T KernelStop → (KernelFault → Type 0) → Type 0
OnRefusal (Ok value) P = Unit
OnRefusal (Err stop) P = OnStop P stop
