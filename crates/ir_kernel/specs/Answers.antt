-- When a module is no kernel.
use Rattle.std.specs.Prelude.{◌⊎◌}
use Rattle.ir_ast.specs.Program.{ModuleView}
use Rattle.ir_ast.specs.declared.fault.KernelFault.{KernelFault}
use Rattle.ir_layout.specs.Rules.{IsLaidOut}
use Rattle.ir_layout.specs.Answers as layout
use Rattle.ir_check.specs.Answers as checks

-- layout is tried first; the checks are tried where it refuses nothing
abbrev pub IsRefusal : ModuleView → KernelFault → Type 0
IsRefusal m fault = layout.IsRefusal m fault ⊎ (IsLaidOut m × checks.IsRefusal m fault)
